-- What the functions below `rice_decompress` require, and what their answers tell of the rules.
use Rattle.std.specs.Prelude.{◌≡◌, ℕ, ◌^◌, ◌<◌, ◌≤◌, List, ℤ}
use Rattle.rules.specs.Answers.{Ans, answered}
use Rattle.rules.specs.Words.{unfolded}
use Rattle.rules.specs.Rice as rule
use Rattle.dec_rice.specs.declared.Coding.{Coding}
use Rattle.dec_rice.specs.declared.State.{State}
use Rattle.dec_rice.specs.declared.Step.{Step}
use Rattle.dec_rice.specs.Promise.{Coded}

-- the history is in its range
pub record Tracked (f h : ℕ) : Type 0 where
  pub factor_le : f ≤ 127
  pub history_lt : h < 2 ^ 25

-- a run can be read
pub record Running (c : Coding) (h : ℕ) : Type 0 where
  pub coded : Coded c
  pub history_lt : h < 128

-- a sample can be read
pub record Ready (c : Coding) (h : ℕ) : Type 0 where
  pub coded : Coded c
  pub history_lt : h < 2 ^ 25

-- what the next sample can start from: zeros are owed after a run only
pub record Kept (s : State) : Type 0 where
  pub history_lt : s.history < 2 ^ 25
  pub after_run : 0 < s.owed → (s.history ≡ 0) × (s.plus ≡ 1)

abbrev pub step_of : Step → rule.Step
step_of s = record { residual = unfolded s.value; history = s.next.history; owed = s.next.owed; plus = s.next.plus }

abbrev pub residuals_of : Ans rule.RiceData → Ans (List ℤ)
residuals_of a = answered (λ d. d.residuals) a
