-- Machine words: what a signed local holds, what a shift to the left and back leaves, and what fits 64 bits.
use Prim.Native.Nat.{ℕ, zero, suc, ◌+◌, ◌-◌, ◌*◌, ◌/◌, ◌%◌, ◌^◌, ◌≤◌, ◌<◌, zero-le, suc-le-suc}
use mathlib.Core.Path.{◌≡◌, refl, sym, ap, ◌∙◌, subst}
use mathlib.Core.Bool.{Bool, true, false, false≢true}
use native.Mathlib.Nat.{one-mul, zero-add, add-zero, add-mul, suc-mul, mul_comm, mul_assoc, mul-le-mul, mul-lt-mul_of_pos_right, mul-le-mul_right, mul-div_cancel, mul-mod_left, mod-eq_of_lt, not-suc-le-zero, suc-ne-zero, le_of_suc-le-suc, le_trans, lt_of_le_of_lt}
use native.Mathlib.Omega.{arith}
use borrow.Author.Tests.{ltb-true, ltb-false, lt-ltb, le-ltb, leb-false}
use lib.Dec.{T, ltb, leb, lit<}
use lib.Arith.{digits_div, mod-mul}
use lib.Pow.{pow-add, pow_pos, pow-lt, pow_mono}
use lib.IntN.{ℤ, pos, negsuc, nat_abs, ◌+ℤ◌, ◌-ℤ◌, ◌*ℤ◌}
use lib.Signed.{shr_z, mag, mag_shr, nat_abs-le, le_z}
use mir.Syntax.{Width, w16, w32, w64}
use mir.Val.{bits, hbits, SFits, to_z, of_z, sel}
use mir.ValLaws.{pow-bits, half_full, to_z-of_z, to_z-Fits, Fits-wrap, to_z_pos}
use mir.Facts.{sfits_widen, Fits-of_z, to_z-neg}
use Rattle.std.specs.Int.{int_signum}
use Rattle.rules.specs.Answers.{pick}
use Rattle.rules.specs.Words.{mod_z, signed, wrap, sign, is_zero}
use Rattle.laws.specs.Words.{mag_plus, mag_minus, mag_times, neg_mod, mod_z_lt, wrap_small}

-- ---- a signed local is its bits, and a number read back from them is the number

pub held32 : (z : ℤ) → mag z < 2 ^ 31 → to_z w32 (of_z w32 z) ≡ z
held32 z h = to_z-of_z w32 z (record { sfits = h })

pub held16 : (z : ℤ) → mag z < 2 ^ 15 → to_z w16 (of_z w16 z) ≡ z
held16 z h = to_z-of_z w16 z (record { sfits = h })

-- cast to a wider type
pub wide : (v w : Width) → T (leb (hbits v) (hbits w)) → (x : ℤ) → SFits v x → to_z w (of_z w (to_z v (of_z v x))) ≡ x
wide v w t x f = rw (to_z-of_z v x f) (to_z-of_z w x (sfits_widen t f))

pub wide_fits : (v w : Width) → T (leb (hbits v) (hbits w)) → (x : ℤ) → SFits v x → SFits w (to_z v (of_z v x))
wide_fits v w t x f = rw (to_z-of_z v x f) (sfits_widen t f)

pub wrap_fits : (w : Width) (z : ℤ) → SFits w (wrap (bits w) z)
wrap_fits w z = record { sfits = omega (arith, wrap_small (bits w) z, pow-bits w) }

-- a result of a callee that wraps
pub wrapped : (w : Width) (r x y : ℤ) → r ≡ wrap (bits w) x → x ≡ y → to_z w (of_z w r) ≡ wrap (bits w) y
wrapped w r x y e g = ap (λ (z : ℤ). to_z w (of_z w z)) e ∙ to_z-of_z w (wrap (bits w) x) (wrap_fits w x) ∙ ap (wrap (bits w)) g

-- ---- the shift to the left and back

-- the low b bits of z
bits_mod : (w : Width) (b s : ℕ) → bits w ≡ b + s → (z : ℤ) → SFits w z → of_z w z % 2 ^ b ≡ mod_z (2 ^ b) z
unfolding mod_z
bits_mod w b s e (pos n) f = refl
bits_mod w b s e (negsuc n) f =
    let g : 2 ^ bits w ≡ 2 ^ s * 2 ^ b = ap (λ (k : ℕ). 2 ^ k) e ∙ pow-add 2 b s ∙ mul_comm (2 ^ b) (2 ^ s) in
    rw g (neg_mod (2 ^ s) (2 ^ b) n (pow_pos b) (rw g at (half_full w f.sfits)))

-- all bits of z
pub bits_are : (w : Width) (z : ℤ) → SFits w z → of_z w z ≡ mod_z (2 ^ bits w) z
bits_are w z f = sym (mod-eq_of_lt (Fits-of_z f).fits) ∙ bits_mod w (bits w) 0 (sym (add-zero (bits w))) z f

-- bits as a signed number
pub number_is : (w : Width) (n : ℕ) → n < 2 ^ bits w → to_z w n ≡ signed (bits w) n
unfolding signed
number_is w n h = by (ltb (2 * n) (2 ^ bits w)) refl
  where
    by : (t : Bool) → ltb (2 * n) (2 ^ bits w) ≡ t → to_z w n ≡ pick t (pos n) (negsuc (2 ^ bits w - suc n))
    by true e = to_z_pos w n (omega (arith, ltb-true (2 * n) (2 ^ bits w) e, pow-bits w))
    by false e =
        let k : ℕ = 2 ^ bits w - suc n in
        let l : k < 2 ^ hbits w = omega (arith, ltb-false (2 * n) (2 ^ bits w) e, pow-bits w) in
        let m : n ≡ 2 ^ bits w - suc k = omega arith in
        ap (to_z w) m ∙ to_z-neg w k l

module _ (q S B H M : ℕ) (hS : 0 < S) (hq : q < B) (e : M ≡ B * S) (g : M ≡ H * 2) where
  back : (t : Bool) → ltb (2 * q) B ≡ t
      → shr_z (sel (ltb (q * S) H) (pos (q * S)) (negsuc (M - suc (q * S)))) S ≡ pick t (pos q) (negsuc (B - suc q))
  back true h =
      let l : q * S < H = omega (arith, mul_assoc 2 q S, mul-lt-mul_of_pos_right (ltb-true (2 * q) B h) hS) in
      rw (lt-ltb (q * S) H l) (ap pos (mul-div_cancel q hS))
  back false h =
      let l : H ≤ q * S = omega (arith, mul_assoc 2 q S, mul-le-mul_right S (ltb-false (2 * q) B h)) in
      let d : ℕ = B - suc q in
      let k : B ≡ d + suc q = omega arith in
      let r : M - suc (q * S) ≡ d * S + (S - 1) = omega (arith, ap (λ (x : ℕ). x * S) k, add-mul d (suc q) S, suc-mul q S) in
      rw (le-ltb (q * S) H l) (ap negsuc (ap (λ (x : ℕ). x / S) r ∙ digits_div d (omega arith)))

module _ (w : Width) (b s : ℕ) (e : bits w ≡ b + s) (z : ℤ) (f : SFits w z) where
  full : 2 ^ bits w ≡ 2 ^ b * 2 ^ s
  full = ap (λ (k : ℕ). 2 ^ k) e ∙ pow-add 2 b s

  shifted : (of_z w z * 2 ^ s) % 2 ^ bits w ≡ mod_z (2 ^ b) z * 2 ^ s
  shifted =
      ap (λ (m : ℕ). (of_z w z * 2 ^ s) % m) full
      ∙ mod-mul (of_z w z * 2 ^ s) (pow_pos b) (pow_pos s)
      ∙ simp (mul-div_cancel (of_z w z) (pow_pos s), mul-mod_left, add-zero) (ap (λ (m : ℕ). m * 2 ^ s) (bits_mod w b s e z f))

  wrap_shift : shr_z (to_z w ((of_z w z * 2 ^ s) % 2 ^ bits w)) (2 ^ s) ≡ wrap b z
  unfolding wrap signed
  wrap_shift =
      let q = mod_z (2 ^ b) z in
      let small : q < 2 ^ b = mod_z_lt (2 ^ b) z (pow_pos b) in
      rw shifted (back q (2 ^ s) (2 ^ b) (2 ^ hbits w) (2 ^ bits w) (pow_pos s) small full (pow-bits w) (ltb (2 * q) (2 ^ b)) refl)

  back_fits : SFits w (shr_z (to_z w ((of_z w z * 2 ^ s) % 2 ^ bits w)) (2 ^ s))
  back_fits =
      let n = (of_z w z * 2 ^ s) % 2 ^ bits w in
      record { sfits = lt_of_le_of_lt (mag_shr (to_z w n) (2 ^ s)) (to_z-Fits w n (Fits-wrap w (of_z w z * 2 ^ s))).sfits }

  -- by s bits, which leaves the low b
  pub shift_back : to_z w (of_z w (shr_z (to_z w ((of_z w z * 2 ^ s) % 2 ^ bits w)) (2 ^ s))) ≡ wrap b z
  shift_back = to_z-of_z w (shr_z (to_z w ((of_z w z * 2 ^ s) % 2 ^ bits w)) (2 ^ s)) back_fits ∙ wrap_shift

  -- and a cast to the width of those
  module _ (v : Width) (g : bits v ≡ b) where
    at_v : SFits v (wrap b z)
    at_v = subst (λ (k : ℕ). SFits v (wrap k z)) g (wrap_fits v z)

    pub shift_cast_fits : SFits v (to_z w (of_z w (shr_z (to_z w ((of_z w z * 2 ^ s) % 2 ^ bits w)) (2 ^ s))))
    shift_cast_fits = rw shift_back at_v

    pub shift_cast : to_z v (of_z v (to_z w (of_z w (shr_z (to_z w ((of_z w z * 2 ^ s) % 2 ^ bits w)) (2 ^ s))))) ≡ wrap b z
    shift_cast = rw shift_back (to_z-of_z v (wrap b z) at_v)

-- ---- sums, differences and products of two numbers of 32 bits, at 64

module _ (x y : ℤ) (f : SFits w32 x) (g : SFits w32 y) where
  pub sum_fits : SFits w64 (x +ℤ y)
  sum_fits = record { sfits = omega (arith, mag_plus x y, f.sfits, g.sfits) }

  pub difference_fits : SFits w64 (x -ℤ y)
  difference_fits = record { sfits = omega (arith, mag_minus x y, f.sfits, g.sfits) }

  pub product_fits : SFits w64 (x *ℤ y)
  product_fits =
      let l : nat_abs x * nat_abs y ≤ 2 ^ 31 * 2 ^ 31 = mul-le-mul (nat_abs-le x f.sfits) (nat_abs-le y g.sfits) in
      record { sfits = lt_of_le_of_lt (le_trans (mag_times x y) l) (lit< tt) }

-- the number x of a narrower type, cast to 64 bits
abbrev pub at64 : Width → ℤ → ℤ
at64 v x = to_z w64 (of_z w64 (to_z v (of_z v x)))

-- an operation on two such numbers, and what a callee that wraps makes of it
module _
    (op : ℤ → ℤ → ℤ)
    (v u : Width) (s : T (leb (hbits v) (hbits w64))) (t : T (leb (hbits u) (hbits w64)))
    (x y : ℤ) (f : SFits v x) (g : SFits u y) (h : SFits w64 (op x y)) where
  pub op_fits : SFits w64 (op (at64 v x) (at64 u y))
  op_fits = rw (wide v w64 s x f, wide u w64 t y g) h

  pub op_wrapped : (w : Width) (r : ℤ) → r ≡ wrap (bits w) (to_z w64 (of_z w64 (op (at64 v x) (at64 u y))))
      → to_z w (of_z w r) ≡ wrap (bits w) (op x y)
  op_wrapped w r e =
      wrapped w r (to_z w64 (of_z w64 (op (at64 v x) (at64 u y)))) (op x y) e
      (rw (wide v w64 s x f, wide u w64 t y g) (to_z-of_z w64 (op x y) h))

-- ---- powers of two

pub one_bit : (w : Width) (s : ℕ) → s < hbits w → to_z w ((1 * 2 ^ s) % 2 ^ bits w) ≡ pos (2 ^ s)
one_bit w s h =
    let k : 2 ^ s < 2 ^ hbits w = pow-lt h in
    rw (one-mul, mod-eq_of_lt (half_full w k)) (to_z_pos w (2 ^ s) k)

pub shifted_fits : (x : ℤ) (s : ℕ) → SFits w32 x → s < 32 → SFits w64 (x *ℤ pos (2 ^ s))
shifted_fits x s f h =
    let l : nat_abs x * 2 ^ s ≤ 2 ^ 31 * 2 ^ 31 = mul-le-mul (nat_abs-le x f.sfits) (pow_mono (le_of_suc-le-suc h)) in
    record { sfits = lt_of_le_of_lt (le_trans (mag_times x (pos (2 ^ s))) l) (lit< tt) }

-- ---- tests of the sign and of zero

pub sign_is : (x : ℤ) → int_signum x ≡ sign x
unfolding sign
sign_is (pos zero) = refl
sign_is (pos (suc n)) = ap pos (omega arith)
sign_is (negsuc n) = refl

pub from_zero : (x : ℤ) → le_z (pos 0) x ≡ true → x ≡ pos (mag x)
from_zero (pos n) e = refl
from_zero (negsuc n) e = absurd (false≢true e)

pub below_zero : (x : ℤ) → le_z (pos 0) x ≡ false → x ≡ negsuc (mag x)
below_zero (pos n) e = absurd (not-suc-le-zero (leb-false 0 n e))
below_zero (negsuc n) e = refl

-- a test for zero looks at the bits
pub zero_bits : (x : ℤ) → mag x < 2 ^ 31 → of_z w32 x ≡ 0 → is_zero x ≡ true
zero_bits (pos zero) h z = refl
zero_bits (pos (suc n)) h z = absurd (suc-ne-zero n z)
zero_bits (negsuc n) h z = absurd (omega arith)

pub nonzero_bits : (x : ℤ) → (of_z w32 x ≡ 0 → ⊥) → is_zero x ≡ false
nonzero_bits (pos zero) z = absurd (z refl)
nonzero_bits (pos (suc n)) z = refl
nonzero_bits (negsuc n) z = refl

-- ---- folded signs: -1 - x

pub minus_one_less : (n : ℕ) → negsuc 0 -ℤ pos n ≡ negsuc n
minus_one_less zero = refl
minus_one_less (suc n) = ap (λ (m : ℕ). negsuc (suc m)) (zero-add n)

pub minus_one_minus : (n : ℕ) → negsuc 0 -ℤ negsuc n ≡ pos n
minus_one_minus n = rw (le-ltb (suc n) 1 (suc-le-suc zero-le)) (ap pos (omega arith))
