-- The loops that clear and store, for any kind of place and any way to keep a sample.
use Prim.Native.Nat.{ℕ, zero, suc, ◌+◌, ◌*◌, ◌≤◌, ◌<◌}
use mathlib.Core.Path.{◌≡◌, refl, sym, ap, ◌∙◌}
use mathlib.Core.List.{List, [], ◌∷◌, ◌++◌, map}
use native.Mathlib.Nat.{zero-mul, suc-mul, add-zero}
use native.Mathlib.Numerals.{add-one}
use native.Mathlib.Omega.{arith}
use lib.ListN.{length, get_or, drop, set, length-set, drop_of_length-le}
use lib.Seq.{drop-cons, take-nil}
use Rattle.rules.specs.Buffers.{laid, cleared, placed}

-- ---- clearing

module _ {A : Type 0} (z : A) where
  cleared-next : (i : ℕ) (was : List A) → i < length was → set (cleared z i was) i z ≡ cleared z (suc i) was
  unfolding laid
  cleared-next i [] h = absurd (omega arith)
  cleared-next zero (x ∷ was) h = ap (λ (r : List A). z ∷ (r ++ was)) (sym (take-nil (length was)))
  cleared-next (suc i) (x ∷ was) h = ap (λ (r : List A). z ∷ r) (cleared-next i was (omega arith))

  module _ (n : ℕ) (was : List A) where
    -- the first i of n places are cleared
    pub record Clearing (is : List A) (i : ℕ) : Type 0 where
      pub i_le : i ≤ n
      pub same : length is ≡ length was
      pub go : is ≡ cleared z i was

    pub clearing_start : Clearing was 0
    unfolding laid
    clearing_start = record { i_le = omega arith; same = refl; go = rw take-nil }

    module _ (is : List A) (i : ℕ) (g : Clearing is i) where
      pub clearing_next : i < n → n ≤ length was → Clearing (set is i z) (i + 1)
      clearing_next h r =
          record { i_le = omega arith; same = length-set is i z ∙ g.same; go = rw (g.go, add-one) (cleared-next i was (omega arith)) }

      pub clearing_done : n ≤ i → is ≡ cleared z n was
      clearing_done h = let e : i ≡ n = omega (arith, g.i_le) in rw (← e) g.go

-- ---- storing

module _ {A B : Type 0} (keep : A → B) (z : A) (c first : ℕ) (from : List A) (was : List B) where
  -- the first i samples are stored: the others, placed from here on, make what all of them make from the start
  pub record Storing (out : List B) (i : ℕ) : Type 0 where
    pub i_le : i ≤ length from
    pub same : length out ≡ length was
    pub go : placed c (first + i * c) (map keep (drop i from)) out ≡ placed c first (map keep from) was

  pub storing_start : Storing was 0
  storing_start = record { i_le = omega arith; same = refl; go = rw (zero-mul c, add-zero first) refl }

  module _ (out : List B) (i : ℕ) (g : Storing out i) where
    pub storing_next : (y : B) → i < length from → y ≡ keep (get_or from i z) → Storing (set out (first + i * c) y) (i + 1)
    unfolding placed
    storing_next y h e =
        let k : first + suc i * c ≡ first + i * c + c = omega (arith, suc-mul i c) in
        record {
          i_le = omega arith;
          same = length-set out (first + i * c) y ∙ g.same;
          go = rw (add-one, e, k) (rw (drop-cons from i z h) at g.go);
        }

    pub storing_done : length from ≤ i → out ≡ placed c first (map keep from) was
    unfolding placed
    storing_done h = rw (drop_of_length-le from h) at g.go
