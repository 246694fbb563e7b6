-- What the symbol's reader goes by: the ones that were counted, and the bounds of its numbers.
use Rattle.std.proofs.Common.{◌≡◌, ℕ, zero, suc, ◌+◌, ◌-◌, ◌*◌, ◌^◌, ◌<◌, ◌≤◌, List, Result, Ok, Err, sym, refl, ap, ◌∙◌, arith, mul-le-mul, lt_of_lt_of_le, pow_mono}
use native.Mathlib.Decide.{dec_le}
use native.Mathlib.Nat.{sub-zero}
use lib.Count.{count_leading_zeros, leading_length}
use Rattle.rules.specs.declared.Refusal.{Refusal}
use Rattle.rules.specs.Answers.{Ans, got, bad, bind, answered, Read, ◌>>=◌, give}
use Rattle.rules.specs.Bits.{field}
use Rattle.rules.specs.Symbol.{ones}
use Rattle.bitcursor.specs.Cursor.{Cursor}
use Rattle.bitcursor.specs.Reads.{told, Reads}
use Rattle.bitcursor.proofs.Laws.{value_of, refused_of, read_lt}

-- ---- ones

-- one more than an answer
more_one : (q : ℕ) (a : Ans ℕ) → answered (λ n. q + n) (bind a (λ n p. got (suc n) p)) ≡ answered (λ n. q + 1 + n) a
unfolding answered bind
more_one q (got n p) = ap (λ (x : ℕ). got x p) (omega arith)
more_one q (bad x p) = refl

-- q ones were counted, and the rest of n is to come
pub record Counted (n : ℕ) (was is : Cursor) (q : ℕ) : Type 0 where
  pub q_le : q ≤ n
  pub go : ones was.bits n was.at ≡ answered (λ x. q + x) (ones was.bits (n - q) is.at)
  pub same : is.bits ≡ was.bits

pub counted_none : {n : ℕ} {was : Cursor} → Counted n was was 0
unfolding answered
counted_none {n} {was} = record { q_le = omega arith; go = rw sub-zero (go (ones was.bits n was.at)); same = refl }
  where
    go : (a : Ans ℕ) → a ≡ answered (λ x. 0 + x) a
    go (got x q) = ap (λ (y : ℕ). got y q) (omega arith)
    go (bad x q) = refl

module _ {n : ℕ} {was mid : Cursor} {q : ℕ} (g : Counted n was mid q) where
  pub counted_all : n ≤ q → Reads (λ x. x) (λ bits. ones bits n) was mid (Ok n)
  unfolding ones answered told
  counted_all l =
      let e : q ≡ n = omega (arith, g.q_le) in
      let z : n - n ≡ 0 = omega arith in
      let whole : ones was.bits n was.at ≡ got (n + 0) mid.at = rw (e, z) at g.go in
      record { tells = sym (whole ∙ ap (λ (x : ℕ). got x mid.at) (omega arith)); same = g.same }

  module _ (l : q < n) {is : Cursor} {r : Result ℕ Refusal} (t : Reads (λ v. v) (λ bits. field bits 1) mid is r) where
    left : n - q ≡ suc (n - (q + 1))
    left = omega arith

    pub counted_cut : {x : Refusal} → r ≡ Err x → Reads (λ x. x) (λ bits. ones bits n) was is (Err x)
    unfolding ones answered bind told
    counted_cut {x} k =
        let e : field was.bits 1 mid.at ≡ bad x is.at = rw g.same at (refused_of t k) in
        record { tells = sym (rw (left, e) at g.go); same = t.same ∙ g.same }

    pub counted_end : {v : ℕ} → r ≡ Ok v → v ≡ 0 → Reads (λ x. x) (λ bits. ones bits n) was is (Ok q)
    unfolding ones answered bind told
    counted_end {v} k z =
        let e : field was.bits 1 mid.at ≡ got v is.at = rw g.same at (value_of t k) in
        record { tells = sym ((rw (left, e, z) at g.go) ∙ ap (λ (x : ℕ). got x is.at) (omega arith)); same = t.same ∙ g.same }

    pub counted_next : {v : ℕ} → r ≡ Ok v → (v ≡ 0 → ⊥) → Counted n was is (q + 1)
    unfolding ones bind
    counted_next {v} k z =
        let e : field was.bits 1 mid.at ≡ got v is.at = rw g.same at (value_of t k) in
        let w : v ≡ suc (v - 1) = omega arith in
        record {
          q_le = omega arith;
          go = (rw (left, e, w) at g.go) ∙ more_one q (ones was.bits (n - (q + 1)) is.at);
          same = t.same ∙ g.same;
        }

-- no more than were asked for
ones_le : (bits : List ℕ) (n p : ℕ) {v i : ℕ} → ones bits n p ≡ got v i → v ≤ n
unfolding ones bind
ones_le bits zero p {v} e = let z : v ≡ 0 = cc in omega arith
ones_le bits (suc n) p {v} {i} e = first (field bits 1 p) e (λ j. later (ones bits n j) (λ w k. ones_le bits n j))
  where
    later : (a : Ans ℕ) → ((w k : ℕ) → a ≡ got w k → w ≤ n) → bind a (λ q k. got (suc q) k) ≡ got v i → v ≤ suc n
    later (got q k) f h = let l : q ≤ n = f q k refl in let w : v ≡ suc q = cc in omega arith
    later (bad x k) f h = let z : ◌≡◌ {A = ℕ} 0 1 = cc in absurd (omega arith)

    first : (a : Ans ℕ) → bind a (λ bit. elim bit as (λ d. Read ℕ) [ zero ↦ give 0 | suc d ↦ ones bits n >>= (λ q. give (suc q)) ]) ≡ got v i
        → ((j : ℕ) → bind (ones bits n j) (λ q k. got (suc q) k) ≡ got v i → v ≤ suc n) → v ≤ suc n
    first (got zero j) h f = let z : v ≡ 0 = cc in omega arith
    first (got (suc d) j) h f = f j h
    first (bad x j) h f = let z : ◌≡◌ {A = ℕ} 0 1 = cc in absurd (omega arith)

module _ {was is : Cursor} {r : Result ℕ Refusal} where
  -- nine ones at most, and so the product fits
  pub ones_product : Reads (λ x. x) (λ bits. ones bits 9) was is r → {q m : ℕ} → r ≡ Ok q → m < 65536 → q * m ≤ 9 * 65535
  ones_product t {q} {m} k h = let d : m ≤ 65535 = omega arith in mul-le-mul (ones_le was.bits 9 was.at (value_of t k)) d

  -- all bits of the remainder but the last
  pub high_lt : {k : ℕ} → Reads (λ x. x) (λ bits. field bits (k - 1)) was is r → k ≤ 16 → {v : ℕ} → r ≡ Ok v → v < 2 ^ 15
  high_lt {k} t h e = lt_of_lt_of_le (read_lt (k - 1) t e) (pow_mono {i = k - 1} {j = 15} (omega arith))

-- ---- numbers

pub leading_small : (h : ℕ) → h < 128 → 24 ≤ count_leading_zeros 32 h
leading_small h l = let t = leading_length 32 h (omega arith) in go t.0 t.1 t.3 (dec_le 9 t.0)
  where
    go : (m : ℕ) → count_leading_zeros 32 h + m ≡ 32 → 2 ^ m ≤ 2 * h + 1 → Dec (9 ≤ m) → 24 ≤ count_leading_zeros 32 h
    go m e w (yes c) = absurd (omega (arith, pow_mono {i = 9} {j = m} c))
    go m e w (no c) = omega arith
