-- Coefficients turned round, place by place from the back.
use Prim.Native.Nat.{ℕ, suc, ◌+◌, ◌-◌, ◌≤◌, ◌<◌}
use mathlib.Core.Path.{◌≡◌, ap, ◌∙◌}
use mathlib.Core.List.{List, [], ◌∷◌, ◌++◌, reverse, reverse_aux, reverse_aux-eq}
use native.Mathlib.Nat.{lt-suc_self}
use native.Mathlib.Numerals.{add-one}
use native.Mathlib.Omega.{arith}
use lib.ListN.{length, take, drop, get_or, set, replicate, length-append, length-replicate, length-set, drop_of_length-le}
use lib.Seq.{take_at, drop-cons, get_or-set_same, drop-set-lt}
use lib.IntN.{ℤ, pos}
use Rattle.laws.specs.Buffers.{drop-replicate}

-- the last j places of the first `order` are done
pub record Turning (whole xs coefs : List ℤ) (order j : ℕ) : Type 0 where
  pub goes : reverse_aux (drop j xs) (drop (order - j) coefs) ≡ whole
  pub long : length xs ≡ order
  pub room : order ≤ length coefs

pub turning_start : (n order : ℕ) (xs : List ℤ) → length xs ≡ order → order ≤ n
    → Turning (reverse xs ++ replicate (n - order) (pos 0)) xs (replicate n (pos 0)) order 0
turning_start n order xs e h =
    let z : order - 0 ≡ order = omega arith in
    record { goes = rw (z, drop-replicate order n (pos 0) h) (reverse_aux-eq xs (replicate (n - order) (pos 0))); long = e; room = rw length-replicate h }

module _ {whole xs coefs : List ℤ} {order j : ℕ} (g : Turning whole xs coefs order j) where
  pub turning_next : {x : ℤ} → j < order → x ≡ get_or xs j (pos 0) → Turning whole xs (set coefs (order - 1 - j) x) order (j + 1)
  turning_next {x} h e =
      let i : ℕ = order - 1 - j in
      let l : length (set coefs i x) ≡ length coefs = length-set coefs i x in
      let a : order - (j + 1) ≡ i = omega arith in
      let b : order - j ≡ suc i = omega arith in
      let there : i < length (set coefs i x) = omega (arith, g.room) in
      let d : drop i (set coefs i x) ≡ x ∷ drop (suc i) coefs =
      drop-cons (set coefs i x) i (pos 0) there ∙ rw (get_or-set_same coefs i x (pos 0) (omega (arith, g.room)), drop-set-lt (suc i) coefs i x (lt-suc_self i)) in
      record {
        goes = rw (a, d, e, add-one) (rw (b, drop-cons xs j (pos 0) (omega (arith, g.long))) at g.goes);
        long = g.long;
        room = omega (arith, g.room, l);
      }

  pub turning_done : order ≤ j → coefs ≡ whole
  turning_done h =
      let a : order - j ≡ 0 = omega arith in
      let d : drop j xs ≡ [] = drop_of_length-le xs {i = j} (omega (arith, g.long)) in
      rw (a, d) at g.goes

-- so many places are coefficients, and the others zero
pub turned_first : (xs : List ℤ) {n order : ℕ} {r : List ℤ} → r ≡ reverse xs ++ replicate (n - order) (pos 0) → length r ≡ n → order ≤ n → take order r ≡ reverse xs
turned_first xs {n} {order} {r} e l h =
    let zs : List ℤ = replicate (n - order) (pos 0) in
    let k : length (reverse xs) ≡ order = omega (arith, ap length e, length-append (reverse xs) zs, length-replicate (n - order) (pos 0)) in
    rw e (take_at (reverse xs) zs order k)
