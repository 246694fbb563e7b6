-- The steps of reading a plan: the coefficients one after the other, and what is judged.
use Prim.Native.Nat.{ℕ, zero, suc, ◌-◌, ◌≤◌, ◌<◌}
use mathlib.Core.Path.{◌≡◌, refl, sym, ap, ◌∙◌}
use mathlib.Core.Bool.{true}
use mathlib.Core.List.{List, ◌∷◌, map, reverse_aux}
use native.Mathlib.Omega.{arith}
use lib.ListN.{length, take, drop, set, replicate, length-set, length-drop, length-replicate}
use lib.Seq.{drop-cons, drop-set-lt, get_or-set_same, length-take-le}
use lib.IntN.{ℤ, pos}
use lib.Dec.{eqb}
use lib.Pow.{pow_pos}
use Rattle.std.specs.Prelude.{Result, Ok, Err}
use Rattle.rules.specs.declared.Refusal.{Refusal}
use Rattle.rules.specs.Answers.{Ans, got, bad, bind, Read, answered, times}
use Rattle.rules.specs.Bits.{field}
use Rattle.rules.specs.Words.{signed, is_zero}
use Rattle.rules.specs.Element as rule
use Rattle.laws.specs.Answers.{answered-answered}
use Rattle.laws.specs.Buffers.{drop-replicate}
use Rattle.bitcursor.specs.Cursor.{Cursor}
use Rattle.bitcursor.specs.Reads.{told, Reads}
use Rattle.bitcursor.proofs.Laws.{value_of, refused_of}
use Rattle.dec_header.specs.Plan.{oldest_first, params_of, ZeroPast, Settled, AllowedChannel}
use Rattle.dec_header.specs.declared.plan.Parameters.{Parameters}

module _ {A B : Type 0} where
  answered-same : {f g : A → B} (a : Ans A) → ((v : A) → f v ≡ g v) → answered f a ≡ answered g a
  unfolding answered
  answered-same (got v p) h = rw (h v)
  answered-same (bad x p) h = refl

  answered_bind : (f : A → B) (a : Ans A) → bind a (λ v p. got (f v) p) ≡ answered f a
  unfolding answered bind
  answered_bind f (got v p) = refl
  answered_bind f (bad x p) = refl

-- one more that is read
times_more : {A : Type 0} (one : Read A) (n p : ℕ) {q : ℕ} {v : A} → one p ≡ got v q → times (suc n) one p ≡ answered (λ vs. v ∷ vs) (times n one q)
unfolding times bind
times_more one n p {q = q} {v = v} e = rw e (answered_bind (λ vs. v ∷ vs) (times n one q))

-- ---- the coefficients

module _ {A : Type 0} where
  -- one more before those in place
  take-set : (n k : ℕ) (l : List A) (a : A) → k < n → k < length l → take (n - k) (drop k (set l k a)) ≡ a ∷ take (n - suc k) (drop (suc k) l)
  take-set n k l a h i =
      let e : n - k ≡ suc (n - suc k) = omega arith in
      let j : k < length (set l k a) = rw length-set i in
      rw (e, drop-cons (set l k a) k a j, get_or-set_same l k a a i, drop-set-lt (suc k) l k a (omega arith))

-- those from `left` on are in place, and those before it are read next
pub record Filling (order : ℕ) (was : Cursor) (coefs : List ℤ) (left : ℕ) (is : Cursor) : Type 0 where
  pub left_le : left ≤ order
  pub size : length coefs ≡ 32
  pub rest : ZeroPast order coefs
  pub same : is.bits ≡ was.bits
  pub go : answered oldest_first (times order (field was.bits 16) was.at)
      ≡ answered (λ vs. reverse_aux (map (signed 16) vs) (take (order - left) (drop left coefs))) (times left (field was.bits 16) is.at)

module _ {order : ℕ} {was : Cursor} where
  pub filling_start : order < 32 → Filling order was (replicate 32 (pos 0)) order was
  filling_start h =
      let e : order - order ≡ 0 = omega arith in
      record {
        left_le = omega arith;
        size = length-replicate 32 (pos 0);
        rest = drop-replicate order 32 (pos 0) (omega arith);
        same = refl;
        go = rw e;
      }

  module _ {coefs : List ℤ} {left : ℕ} {mid is : Cursor} {r : Result ℕ Refusal} where
    pub filling_next : {v : ℕ} → order < 32 → 0 < left → Filling order was coefs left mid → Reads (λ n. n) (λ packet. field packet 16) mid is r → r ≡ Ok v
        → Filling order was (set coefs (left - 1) (signed 16 v)) (left - 1) is
    filling_next {v} l h f t e =
        let k = left - 1 in
        let i : k < length coefs = omega (arith, f.left_le, f.size) in
        let j : k < order = omega (arith, f.left_le) in
        let n : left ≡ suc k = omega arith in
        record {
          left_le = omega (arith, f.left_le);
          size = length-set coefs k (signed 16 v) ∙ f.size;
          rest = drop-set-lt order coefs k (signed 16 v) j ∙ f.rest;
          same = t.same ∙ f.same;
          go =
              rw n at f.go
              ∙ ap (answered _) (times_more (field was.bits 16) k mid.at (rw f.same at (value_of t e)))
              ∙ answered-answered _ _ _
              ∙ answered-same (times k (field was.bits 16) is.at) (λ vs. ap (reverse_aux (map (signed 16) vs)) (sym (take-set order k coefs (signed 16 v) j i)));
        }

    pub filling_short : {x : Refusal} → 0 < left → Filling order was coefs left mid → Reads (λ n. n) (λ packet. field packet 16) mid is r → r ≡ Err x
        → Reads (take order) (λ packet at. answered oldest_first (times order (field packet 16) at)) was is (Err x)
    unfolding times bind answered told
    filling_short h f t e =
        let n : left ≡ suc (left - 1) = omega arith in
        record { tells = sym (rw n at f.go ∙ rw (rw f.same at (refused_of t e))); same = t.same ∙ f.same }

  pub filling_done : {coefs : List ℤ} {left : ℕ} {is : Cursor} → Filling order was coefs left is → left ≤ 0
      → Reads (take order) (λ packet at. answered oldest_first (times order (field packet 16) at)) was is (Ok coefs)
  unfolding times answered told
  filling_done {left = zero} f h = let z : order - 0 ≡ order = omega arith in record { tells = sym (f.go ∙ rw z); same = f.same }
  filling_done {left = suc left} f h = absurd (omega arith)

-- ---- a channel's parameters

pub settled_order : {c : Parameters} → Settled c → length (take c.order c.coefs) ≡ c.order
settled_order {c} f =
    let l : c.order ≤ length c.coefs = omega (arith, f.order_lt, length-drop c.order c.coefs, ap length f.rest, length-replicate (32 - c.order) (pos 0)) in
    length-take-le c.order c.coefs l

-- ---- what is judged

-- b bits are zero where their number is
pub signed_zero : (b r : ℕ) → is_zero (signed b r) ≡ eqb r 0
unfolding signed
signed_zero b r = grind (arith, pow_pos)

pub channel_allowed : {c : Parameters} → rule.params_ok (params_of c) ≡ true → Settled c → AllowedChannel c
unfolding rule.params_ok
channel_allowed e f = grind (arith, settled_order)
