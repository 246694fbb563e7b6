-- Laws of codes: q ones, a zero and a remainder in one number, and the escape.
use Prim.Native.Nat.{ℕ, zero, suc, ◌+◌, ◌-◌, ◌*◌, ◌/◌, ◌%◌, ◌^◌, ◌≤◌, ◌<◌}
use mathlib.Core.Path.{◌≡◌, refl, sym, ap, ap₂, ◌∙◌}
use mathlib.Core.List.{List, [], ◌∷◌, ◌++◌, append_assoc}
use native.Mathlib.Nat.{add-zero, mod-lt, pow-suc, lt_of_lt_of_le}
use native.Mathlib.Numerals.{one-add}
use native.Mathlib.Omega.{arith}
use lib.ListN.{replicate}
use lib.Pow.{pow_pos, pow-add, pow_mono, ones_lt}
use lib.Arith.{digits_lt}
use borrow.Author.Tests.{lt-ltb, le-ltb, ne_eqb}
use Rattle.rules.specs.Bits.{digits}
use Rattle.rules.specs.Rice.{symbol_m}
use Rattle.rules.specs.Writer.{rest_bits, symbol_bits}
use Rattle.enc_bits.proofs.Digits.{digits_mod, digits_join, digits_zero}
use Rattle.enc_rice.specs.declared.Code.{Code}
use Rattle.enc_rice.specs.Code.{Codes, Parts, Sizes}

join_lt : (a b : ℕ) {x y : ℕ} → x < 2 ^ a → y < 2 ^ b → x * 2 ^ b + y < 2 ^ (a + b)
join_lt a b hx hy = rw (pow-add 2 a b) (digits_lt hx hy)

-- one code after the other, in one
code_join : (a b x y : ℕ) {v w : List ℕ} → digits a x ≡ v → digits b y ≡ w → x < 2 ^ a → y < 2 ^ b → a + b ≤ 41
    → Codes (v ++ w) (record { bits = x * 2 ^ b + y; len = a + b })
code_join a b x y ev ew hx hy l = record {
  are = digits_join a b x y hy ∙ ap₂ (λ (p q : List ℕ). p ++ q) ev ew;
  fits = record { len_le = l; small = join_lt a b hx hy };
}

pub codes_lt : {w : List ℕ} {c : Code} → Codes w c → c.bits < 2 ^ 41
codes_lt h = lt_of_lt_of_le h.fits.small (pow_mono {j = 41} h.fits.len_le)

-- ---- ones

digits-ones : (n : ℕ) → digits n (2 ^ n - 1) ≡ replicate n 1
unfolding digits
digits-ones zero = refl
digits-ones (suc n) =
    let e : 2 ^ suc n - 1 ≡ 1 * 2 ^ n + (2 ^ n - 1) = omega (arith, pow-suc 2 n, pow_pos n) in
    ap₂ digits (sym (one-add n)) e ∙ digits_join 1 n 1 (2 ^ n - 1) (ones_lt n) ∙ ap (λ (t : List ℕ). 1 ∷ t) (digits-ones n)

-- q ones and a zero
digits_front : (q : ℕ) → digits (q + 1) (2 ^ (q + 1) - 2) ≡ replicate q 1 ++ (0 ∷ [])
unfolding digits
digits_front q =
    let e : 2 ^ (q + 1) - 2 ≡ (2 ^ q - 1) * 2 ^ 1 + 0 = omega (arith, pow-add 2 q 1, pow_pos q) in
    rw e (digits_join q 1 (2 ^ q - 1) 0 (omega arith) ∙ ap (λ (t : List ℕ). t ++ (0 ∷ [])) (digits-ones q))

front_lt : (q : ℕ) → 2 ^ (q + 1) - 2 < 2 ^ (q + 1)
front_lt q = omega (arith, pow_pos (q + 1))

-- ---- the rest

rest_zero : (k : ℕ) → 1 ≤ k → rest_bits k 0 ≡ replicate (k - 1) 0
unfolding rest_bits
rest_zero zero h = absurd (omega arith)
rest_zero (suc zero) h = refl
rest_zero (suc (suc k)) h = rw (ne_eqb (suc (suc k)) 1 (omega arith))

rest_more : (k r : ℕ) → 1 ≤ r → r < 2 ^ k - 1 → rest_bits k r ≡ digits k (r + 1)
unfolding rest_bits
rest_more zero r g h = absurd (omega arith)
rest_more (suc zero) r g h = absurd (omega arith)
rest_more (suc (suc k)) r g h = rw (ne_eqb (suc (suc k)) 1 (omega arith), ne_eqb r 0 (omega arith))

-- ---- the symbol

-- powers of two as the code has them: a and b
module _ {q r k a b : ℕ} (p : Parts q r k) (ea : a ≡ 2 ^ (q + 1)) where
  pub short_zero : b ≡ 2 ^ (k - 1) → r ≡ 0 → Codes (replicate q 1 ++ 0 ∷ rest_bits k r) (record { bits = (a - 2) * b; len = q + 1 + (k - 1) })
  short_zero eb er =
      let z : (2 ^ (q + 1) - 2) * 2 ^ (k - 1) ≡ (2 ^ (q + 1) - 2) * 2 ^ (k - 1) + 0 = sym (add-zero _) in
      rw (ea, eb, z, er, rest_zero k p.k_pos, ← append_assoc {A = ℕ} (replicate q 1) (0 ∷ []) (replicate (k - 1) 0))
      (code_join (q + 1) (k - 1) (2 ^ (q + 1) - 2) 0 (digits_front q) (digits_zero (k - 1)) (front_lt q) (pow_pos (k - 1)) (omega (arith, p)))

  pub short_more : b ≡ 2 ^ k → 1 ≤ r → Codes (replicate q 1 ++ 0 ∷ rest_bits k r) (record { bits = (a - 2) * b + (r + 1); len = q + 1 + k })
  short_more eb g =
      rw (ea, eb, rest_more k r g p.r_lt, ← append_assoc {A = ℕ} (replicate q 1) (0 ∷ []) (digits k (r + 1)))
      (code_join (q + 1) k (2 ^ (q + 1) - 2) (r + 1) (digits_front q) refl (front_lt q) (omega (arith, p)) (omega (arith, p)))

pub m_pos : {k b : ℕ} → Sizes k b → 0 < symbol_m k
m_pos {k} s = omega (arith, pow_mono {i = 1} {j = k} s.k_pos)

module _ {k b : ℕ} (s : Sizes k b) (v : ℕ) where
  pub symbol-parts : v / symbol_m k < 9 → Parts (v / symbol_m k) (v % symbol_m k) k
  symbol-parts h = record { q_lt = h; k_pos = s.k_pos; k_le = s.k_le; r_lt = mod-lt v (m_pos s) }

  pub symbol_short : v / symbol_m k < 9 → symbol_bits k (symbol_m k) b v ≡ replicate (v / symbol_m k) 1 ++ 0 ∷ rest_bits k (v % symbol_m k)
  unfolding symbol_bits
  symbol_short h = rw (lt-ltb (v / symbol_m k) 9 h)

  pub symbol_escape : {u : ℕ} → u ≡ 2 ^ b → 9 ≤ v / symbol_m k → Codes (symbol_bits k (symbol_m k) b v) (record { bits = 511 * u + v % u; len = 9 + b })
  unfolding symbol_bits
  symbol_escape e h =
      rw (e, le-ltb (v / symbol_m k) 9 h)
      (code_join 9 b 511 (v % 2 ^ b) (digits-ones 9) (digits_mod b v) (omega arith) (mod-lt v (pow_pos b)) (omega (arith, s.b_le)))
