-- What the answers of this crate tell of the rules.
use Rattle.std.specs.Prelude.{ℕ, List, ◌≤◌, ◌<◌, ◌≡◌, Bool, true, false, Result, Ok, Err}
use Rattle.rules.specs.declared.Refusal.{Refusal}
use Rattle.rules.specs.Answers.{Ans, got, bad, Read}
use Rattle.bitcursor.specs.Cursor.{Cursor}

module _ {A B : Type 0} where
  -- the answer of the rules that the code's answer stands for: f of the value, and the place that was reached
  unfoldable pub told : (A → B) → Result A Refusal → ℕ → Ans B
  told f (Ok v) p = got (f v) p
  told f (Err x) p = bad x p

  -- the rules' answer was read, and the bits are the same
  pub record Reads (f : A → B) (rule : List ℕ → Read B) (was is : Cursor) (r : Result A Refusal) : Type 0 where
    pub tells : told f r is.at ≡ rule was.bits was.at
    pub same : is.bits ≡ was.bits

-- a flag that says whether a ≤ b
pub record Enough (a b : ℕ) (r : Bool) : Type 0 where
  pub yes_le : r ≡ true → a ≤ b
  pub no_lt : r ≡ false → b < a
