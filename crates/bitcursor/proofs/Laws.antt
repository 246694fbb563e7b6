-- The rules' reads and skips, what a caller learns from an answer that it took apart, and the steps of the code.
use Prim.Native.Nat.{ℕ, ◌+◌, ◌-◌, ◌*◌, ◌/◌, ◌%◌, ◌^◌, ◌≤◌, ◌<◌}
use mathlib.Core.Path.{◌≡◌, refl, ap, sym, ◌∙◌}
use mathlib.Core.List.{List}
use mathlib.Core.Bool.{Bool, true, false}
use native.Mathlib.Omega.{arith}
use lib.Dec.{leb}
use lib.ListN.{length, take, drop, get_or}
use lib.Pow.{pow_mono}
use borrow.Author.Tests.{le-leb, lt-leb, leb-true}
use Rattle.std.specs.Prelude.{Result, Ok, Err, IsErrAnd}
use Rattle.rules.specs.declared.Refusal.{Refusal}
use Rattle.rules.specs.declared.Refusal.TheVariants as refusal
use Rattle.rules.specs.Answers.{Ans, got, bad, pick, bind, Read, check, give}
use Rattle.rules.specs.Bits.{num, bits_of, within, field, skip}
use Rattle.laws.specs.Bits.{length-bits_of}
use Rattle.laws.specs.Bytes.{bit_of_lem, num-next, bit_lt, field_lt}
use Rattle.bitcursor.specs.Cursor.{Cursor}
use Rattle.bitcursor.specs.Reads.{told, Reads}

-- ---- reads and skips of the rules

module _ {A : Type 0} (bits : List ℕ) (n : ℕ) (v : A) (p : ℕ) where
  pub within_value : p + n ≤ length bits → within bits n v p ≡ got v (p + n)
  unfolding within
  within_value h = rw le-leb

  pub within_short : length bits < p + n → within bits n v p ≡ bad refusal.Short p
  unfolding within
  within_short h = rw lt-leb

  pub within_got : {w : A} {i : ℕ} → within bits n v p ≡ got w i → (w ≡ v) × (i ≡ p + n) × (p + n ≤ length bits)
  unfolding within
  within_got {w} {i} e = step (leb (p + n) (length bits)) refl e
    where
      step : (t : Bool) → leb (p + n) (length bits) ≡ t → pick t (got v (p + n)) (bad refusal.Short p) ≡ got w i → (w ≡ v) × (i ≡ p + n) × (p + n ≤ length bits)
      step true l h = (cc, cc, leb-true _ _ l)
      step false l h = let z : ◌≡◌ {A = ℕ} 0 1 = cc in absurd (omega arith)

pub skip-next : (bits : List ℕ) (n p : ℕ) {u : Unit {0}} {i : ℕ} → skip bits n p ≡ got u i → (i ≡ p + n) × (p + n ≤ length bits)
skip-next bits n p e = let r = within_got bits n tt p e in (r.1, r.2)

-- ---- answers

module _ {A B : Type 0} {f : A → B} {rule : List ℕ → Read B} {was is : Cursor} {r : Result A Refusal} (t : Reads f rule was is r) where
  pub value_of : {v : A} → r ≡ Ok v → rule was.bits was.at ≡ got (f v) is.at
  unfolding told
  value_of k = sym t.tells ∙ ap (λ q. told f q is.at) k

  pub refused_of : {x : Refusal} → r ≡ Err x → rule was.bits was.at ≡ bad x is.at
  unfolding told
  refused_of k = sym t.tells ∙ ap (λ q. told f q is.at) k

-- a number that was read has no more bits
pub read_lt : {was is : Cursor} (n : ℕ) {r : Result ℕ Refusal} → Reads (λ v. v) (λ bits. field bits n) was is r → {v : ℕ} → r ≡ Ok v → v < 2 ^ n
read_lt {was} {is} n t k =
    let w = within_got was.bits n (num (take n (drop was.at was.bits))) was.at (value_of t k) in
    rw w.0 (field_lt was.bits was.binary n was.at w.2)

module _ {A B C D : Type 0} {f : A → B} {g : C → D} {rule : List ℕ → Read B} (next : List ℕ → B → Read D) {was mid : Cursor} {r : Result A Refusal} (t : Reads f rule was mid r) where
  -- what follows a value reads on from the place after it
  pub then : {v : A} {is : Cursor} {q : Result C Refusal} → r ≡ Ok v → Reads g (λ bits. next bits (f v)) mid is q → Reads g (λ bits p. bind (rule bits p) (next bits)) was is q
  unfolding bind
  then k n = record { tells = rw (value_of t k, ← t.same) n.tells; same = n.same ∙ t.same }

  -- a refusal is the last
  pub then_not : {x : Refusal} {q : Result C Refusal} → r ≡ Err x → q ≡ Err x → Reads g (λ bits p. bind (rule bits p) (next bits)) was mid q
  unfolding bind told
  then_not k e = rw e (record { tells = rw (refused_of t k); same = t.same })

module _ {A D : Type 0} {g : A → D} {was : Cursor} where
  -- what was judged here, and what follows
  pub holds : (x : Refusal) (next : List ℕ → Read D) {test : Bool} {is : Cursor} {q : Result A Refusal} → test ≡ true → Reads g next was is q
      → Reads g (λ bits p. bind (check test x p) (λ _. next bits)) was is q
  unfolding bind
  holds x next e n = rw e n

  pub fails : (x : Refusal) (next : List ℕ → Read D) {test : Bool} → test ≡ false → Reads g (λ bits p. bind (check test x p) (λ _. next bits)) was was (Err x)
  unfolding bind told
  fails x next e = rw e (record { tells = refl; same = refl })

  pub gives : {v : A} → Reads g (λ bits. give (g v)) was was (Ok v)
  unfolding told
  gives = record { tells = refl; same = refl }

-- what the `?` of a refusal returns
pub exit : {A : Type 0} {x : Refusal} (r : Result A Refusal) → IsErrAnd r (λ y. y ≡ x) → r ≡ Err x
exit (Ok _) e = elim e [ ]
exit (Err y) e = ap Err e

-- the promise permits one answer, where f tells the values apart
pub reads_same : {A B : Type 0} {f : A → B} {rule : List ℕ → Read B} {was is is' : Cursor} (r q : Result A Refusal)
    → ((v w : A) → r ≡ Ok v → q ≡ Ok w → f v ≡ f w → v ≡ w) → Reads f rule was is r → Reads f rule was is' q → (r ≡ q) × (is.at ≡ is'.at)
unfolding told
reads_same {f = f} {is = is} {is' = is'} (Ok v) (Ok w) apart s t =
    let e : got (f v) is.at ≡ got (f w) is'.at = s.tells ∙ sym t.tells in
    let k : v ≡ w = apart v w refl refl (cc) in
    (ap Ok k, cc)
reads_same {B = B} {is = is} {is' = is'} (Err x) (Err y) apart s t =
    let e : ◌≡◌ {A = Ans B} (bad x is.at) (bad y is'.at) = s.tells ∙ sym t.tells in
    (cc, cc)
reads_same {f = f} {is = is} {is' = is'} (Ok v) (Err y) apart s t =
    let e : got (f v) is.at ≡ bad y is'.at = s.tells ∙ sym t.tells in
    cc
reads_same {f = f} {is = is} {is' = is'} (Err x) (Ok w) apart s t =
    let e : bad x is.at ≡ got (f w) is'.at = s.tells ∙ sym t.tells in
    cc

-- ---- the answers as the code makes them

module _ {A : Type 0} (xs : List ℕ) (n : ℕ) (v : A) where
  pub passed : (p byte bit : ℕ) → p + n ≤ length xs * 8 → byte * 8 + bit ≡ p + n → got v (byte * 8 + bit) ≡ within (bits_of xs) n v p
  passed p byte bit h e = rw (within_value (bits_of xs) n v p (rw length-bits_of h), e)

  pub refused : (p : ℕ) → length xs * 8 < p + n → bad refusal.Short p ≡ within (bits_of xs) n v p
  refused p h = rw (within_short (bits_of xs) n v p (rw length-bits_of h))

-- one more bit of the value
pub bit_next : (xs : List ℕ) (byte bit i : ℕ) {v : ℕ} → byte * 8 + bit + i < length xs * 8 → v ≡ num (take i (drop (byte * 8 + bit) (bits_of xs)))
    → v * 2 + get_or xs (byte + (bit + i) / 8) 0 / 2 ^ (7 - (bit + i) % 8) % 2 ≡ num (take (i + 1) (drop (byte * 8 + bit) (bits_of xs)))
bit_next xs byte bit i h e =
    let p : byte * 8 + bit + i ≡ (byte + (bit + i) / 8) * 8 + (bit + i) % 8 = omega arith in
    rw (num-next (bits_of xs) i (byte * 8 + bit) (rw length-bits_of h), e, p, bit_of_lem xs (byte + (bit + i) / 8) ((bit + i) % 8) (omega arith) (omega arith))

-- fewer than 32 bits leave a word room for one more
pub half_lt : (xs : List ℕ) (i p : ℕ) → i < 32 → p + i ≤ length xs * 8 → num (take i (drop p (bits_of xs))) < 2 ^ 31
half_lt xs i p l h =
    let e : 2 ^ i ≤ 2 ^ 31 = pow_mono {i = i} {j = 31} (omega arith) in
    omega (arith, field_lt (bits_of xs) (bit_lt xs) i p (rw length-bits_of h))
