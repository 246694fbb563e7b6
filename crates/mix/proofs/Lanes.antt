-- The writer's mix: one channel of the mixed passage, by the rule's cases.
use Prim.Native.Nat.{ℕ, zero, suc, ◌<◌}
use mathlib.Core.Path.{◌≡◌, refl}
use mathlib.Core.Bool.{Bool, true, false}
use mathlib.Core.List.{List, [], map, map-map}
use native.Mathlib.Omega.{arith}
use lib.ListN.{get_or}
use lib.IntN.{ℤ}
use Rattle.rules.specs.Answers.{pick}
use Rattle.rules.specs.Words.{sub32, is_zero}
use Rattle.rules.specs.Buffers.{lane, up_to, lanes}
use Rattle.rules.specs.Mix.{mid_of, on_pair, mixed}

up_to_at : {A : Type 0} (f : ℕ → A) (z : A) (n j : ℕ) → j < n → get_or (map f (up_to n)) j z ≡ f j
unfolding up_to
up_to_at f z zero j h = absurd (omega arith)
up_to_at f z (suc n) zero h = refl
up_to_at f z (suc n) (suc j) h = rw (map-map f suc) (up_to_at (λ k. f (suc k)) z n j (omega arith))

pub lanes_at : (c j : ℕ) (xs : List ℤ) → j < c → get_or (lanes c xs) j [] ≡ lane c xs j
lanes_at c j xs h = up_to_at (lane c xs) [] c j h

module _ (mix_bits : ℕ) (mix_res : ℤ) where
  pub mixed_single : (c : ℕ) (xs : List ℤ) → c ≡ 1 → mixed mix_bits mix_res (lanes c xs) ≡ lanes c xs
  unfolding mixed on_pair up_to
  mixed_single c xs e = rw e (by (is_zero mix_res))
    where
      by : (t : Bool) → pick t (lanes 1 xs) (lanes 1 xs) ≡ lanes 1 xs
      by true = refl
      by false = refl

  module _ (chans : List (List ℤ)) where
    pub mixed_zero : is_zero mix_res ≡ true → mixed mix_bits mix_res chans ≡ chans
    unfolding mixed
    mixed_zero e = rw e

    pub mixed_pair : is_zero mix_res ≡ false → mixed mix_bits mix_res chans ≡ on_pair (mid_of mix_bits mix_res) sub32 chans
    unfolding mixed
    mixed_pair e = rw e
