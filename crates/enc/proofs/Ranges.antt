-- Refusal 19: the tests as the code makes them are those of the rules.
use Prim.Native.Nat.{ℕ, zero, suc, ◌≤◌, min}
use mathlib.Core.Path.{◌≡◌, refl}
use mathlib.Core.Bool.{Bool, true, false, ◌&&◌, ◌||◌}
use mathlib.Core.List.{[], ◌∷◌}
use native.Mathlib.Decide.{dec_le}
use native.Mathlib.Omega.{arith}
use borrow.Author.Tests.{le-leb, lt-leb, le-ltb}
use lib.Dec.{leb, ltb}
use lib.ListN.{take}
use lib.Seq.{take-nil}
use Rattle.rules.specs.Element.{all_of}

-- one channel or two of those that there are
pub all_used : {A : Type 0} (ok : A → Bool) (n : ℕ) (a b : A)
    → (ltb n 1 || ok a) && (ltb n 2 || ok b) ≡ all_of ok (take n (a ∷ b ∷ []))
unfolding all_of
all_used ok zero a b = refl
all_used ok (suc zero) a b = refl
all_used ok (suc (suc n)) a b = rw (le-ltb (suc (suc n)) 1 (omega arith), le-ltb (suc (suc n)) 2 (omega arith), take-nil n) (by (ok a) (ok b))
  where
    by : (p q : Bool) → p && q ≡ p && (q && true)
    by true true = refl
    by true false = refl
    by false q = refl

-- no more than either
pub le_both : (x a b : ℕ) → leb x a && leb x b ≡ leb x (min a b)
le_both x a b = by (dec_le x a) (dec_le x b)
  where
    by : Dec (x ≤ a) → Dec (x ≤ b) → leb x a && leb x b ≡ leb x (min a b)
    by (yes h) (yes k) = rw (le-leb x a h, le-leb x b k, le-leb x (min a b) (omega arith))
    by (yes h) (no k) = rw (le-leb x a h, lt-leb x b (omega arith), lt-leb x (min a b) (omega arith))
    by (no h) d = rw (lt-leb x a (omega arith), lt-leb x (min a b) (omega arith))
