-- Laws of words: a wrap inside a sum that is wrapped to no more bits changes nothing, and what b bits hold is as it was.
use Rattle.std.specs.Prelude.{ℕ, zero, suc, ◌+◌, ◌-◌, ◌*◌, ◌/◌, ◌%◌, ◌^◌, ◌≤◌, ◌<◌, ◌≡◌, refl, Bool, true, false, cond, List, [], ◌∷◌, ltb, ℤ, pos, negsuc, neg_ℤ, nat_abs, ◌+ℤ◌, ◌-ℤ◌, ◌*ℤ◌}
use Rattle.std.proofs.Common.{sym, ap, ◌∙◌, le_refl, mod-lt, mod-eq_of_lt, add-mul, suc-mul, mul-one, mul_assoc, mul-le-mul, mul-le-mul_left, div-add-mod', div-lt_iff_lt-mul, pow-suc, lt_of_lt_of_le, arith, ltb-true, ltb-false, lt-ltb, le-ltb, pow-add, pow_pos, pow_mono}
use Rattle.std.proofs.Math.Nat.{add-mod, add-mul-mod_self_right}
use Rattle.std.proofs.Math.Arith.{digits_mod}
use Rattle.std.proofs.Math.Pow.{mod-mod-pow}
use Rattle.std.proofs.Math.IntN.{sub_ℕ, +ℤ_assoc, +ℤ_comm, -ℤ-+ℤ_cancel, pos-ne-negsuc}
use Rattle.std.specs.Int.Signed.{mag}
use Rattle.rules.specs.Answers.{pick}
use Rattle.rules.specs.Words.{mod_z, signed, wrap}

-- ---- ranges

-- b bits hold z, for b from 1
abbrev pub InBits : ℕ → ℤ → Type 0
InBits b z = 2 * mag z < 2 ^ b

pub in_more : (b c : ℕ) (z : ℤ) → b ≤ c → InBits b z → InBits c z
in_more b c z h k = lt_of_lt_of_le k (pow_mono h)

module _ {A : Type 0} where
  pub data Every (P : A → Type 0) : List A → Type 0 where
    none : Every P []
    one : {x : A} {xs : List A} → P x → Every P xs → Every P (x ∷ xs)

  pub every_map : {P Q : A → Type 0} {xs : List A} → ((x : A) → P x → Q x) → Every P xs → Every Q xs
  every_map f none = none
  every_map f (one {x = x} p ps) = one (f x p) (every_map f ps)

-- every sample has b bits
abbrev pub AllIn : ℕ → List ℤ → Type 0
AllIn b = Every (InBits b)

pub all_in_more : (b c : ℕ) {xs : List ℤ} → b ≤ c → AllIn b xs → AllIn c xs
all_in_more b c h = every_map (λ x. in_more b c x h)

mag_by : (t : Bool) (u v : ℕ) → ltb u v ≡ t → mag (cond t (negsuc (v - suc u)) (pos (u - v))) ≡ (v - suc u) + (u - v)
mag_by true u v e = omega (arith, ltb-true u v e)
mag_by false u v e = omega (arith, ltb-false u v e)

-- one of the two is 0
pub mag_sub : (u v : ℕ) → mag (sub_ℕ u v) ≡ (v - suc u) + (u - v)
mag_sub u v = mag_by (ltb u v) u v refl

pub mag_plus : (x y : ℤ) → mag (x +ℤ y) ≤ mag x + mag y + 1
mag_plus (pos a) (pos b) = omega arith
mag_plus (pos a) (negsuc b) = omega (arith, mag_sub a (suc b))
mag_plus (negsuc a) (pos b) = omega (arith, mag_sub b (suc a))
mag_plus (negsuc a) (negsuc b) = omega arith

pub mag_minus : (x y : ℤ) → mag (x -ℤ y) ≤ mag x + mag y + 1
mag_minus (pos a) (pos zero) = omega arith
mag_minus (pos a) (pos (suc b)) = omega (arith, mag_sub a (suc b))
mag_minus (pos a) (negsuc b) = omega arith
mag_minus (negsuc a) (pos zero) = omega (arith, mag_sub 0 (suc a))
mag_minus (negsuc a) (pos (suc b)) = omega arith
mag_minus (negsuc a) (negsuc b) = omega (arith, mag_sub (suc b) (suc a))

mag_neg : (n : ℕ) → mag (neg_ℤ (pos n)) ≤ n
mag_neg zero = omega arith
mag_neg (suc n) = omega arith

pub mag_times : (x y : ℤ) → mag (x *ℤ y) ≤ nat_abs x * nat_abs y
mag_times (pos a) (pos b) = le_refl (a * b)
mag_times (pos a) (negsuc b) = mag_neg (a * suc b)
mag_times (negsuc a) (pos b) = mag_neg (suc a * b)
mag_times (negsuc a) (negsuc b) = le_refl (suc a * suc b)

-- a difference, added again
pub difference_added : (p x : ℤ) → p +ℤ (x -ℤ p) ≡ x
difference_added p x = +ℤ_comm p (x -ℤ p) ∙ -ℤ-+ℤ_cancel x p

-- ---- mod_z

-- k m's less n + 1
pub neg_mod : (k m n : ℕ) → 0 < m → n < k * m → (k * m - suc n) % m ≡ m - suc (n % m)
neg_mod k m n h p =
    let q : n / m < k = (div-lt_iff_lt-mul h).1 p in
    let d : ℕ = k - suc (n / m) in
    let e : k ≡ d + suc (n / m) = omega arith in
    let t : n % m < m = mod-lt n h in
    let g : k * m - suc n ≡ d * m + (m - suc (n % m)) =
    omega (arith, ap (λ (x : ℕ). x * m) e, add-mul d (suc (n / m)) m, suc-mul (n / m) m, div-add-mod' n m) in
    rw g (digits_mod d (omega arith))

pub mod_z_lt : (m : ℕ) (z : ℤ) → 0 < m → mod_z m z < m
unfolding mod_z
mod_z_lt m (pos n) h = mod-lt n h
mod_z_lt m (negsuc n) h = omega arith

pub mod_z_pos : (m n : ℕ) → n < m → mod_z m (pos n) ≡ n
unfolding mod_z
mod_z_pos m n h = mod-eq_of_lt h

from_sub : (t : Bool) (u v a : ℕ) → cond t (negsuc (v - suc u)) (pos (u - v)) ≡ pos a → ltb u v ≡ t → (v ≤ u) × (u - v ≡ a)
from_sub true u v a e g = absurd (pos-ne-negsuc a (v - suc u) (sym e))
from_sub false u v a e g = (ltb-false u v g, ap mag e)

-- z and enough m's to be no less than 0
pub mod_z_lifted : (m k a : ℕ) (z : ℤ) → 0 < m → z +ℤ pos (k * m) ≡ pos a → mod_z m z ≡ a % m
unfolding mod_z
mod_z_lifted m k a (pos n) h e = sym (add-mul-mod_self_right n k m) ∙ ap (λ (x : ℕ). x % m) (ap mag e)
mod_z_lifted m k a (negsuc n) h e =
    let f = from_sub (ltb (k * m) (suc n)) (k * m) (suc n) a e refl in
    sym (neg_mod k m n h f.0) ∙ ap (λ (x : ℕ). x % m) f.1

lift : (m : ℕ) (z : ℤ) → 0 < m → (k : ℕ) × (a : ℕ) × (z +ℤ pos (k * m) ≡ pos a)
lift m (pos n) h = (0, n + 0 * m, refl)
lift m (negsuc n) h =
    let l : suc n ≤ suc n * m = omega (arith, mul-le-mul_left (suc n) h, mul-one (suc n)) in
    (suc n, suc n * m - suc n, rw (le-ltb (suc n * m) (suc n) l))

+ℤ-swap : (x y k l : ℤ) → (x +ℤ y) +ℤ (k +ℤ l) ≡ (x +ℤ k) +ℤ (y +ℤ l)
+ℤ-swap x y k l =
    +ℤ_assoc x y (k +ℤ l)
    ∙ ap (λ (z : ℤ). x +ℤ z) (sym (+ℤ_assoc y k l) ∙ ap (λ (z : ℤ). z +ℤ l) (+ℤ_comm y k) ∙ +ℤ_assoc k y l)
    ∙ sym (+ℤ_assoc x k (y +ℤ l))

pub mod_z_add : (m : ℕ) (x y : ℤ) → 0 < m → mod_z m (x +ℤ y) ≡ (mod_z m x + mod_z m y) % m
mod_z_add m x y h =
    let f = lift m x h in
    let g = lift m y h in
    let e : (x +ℤ y) +ℤ pos ((f.0 + g.0) * m) ≡ pos (f.1 + g.1) =
    ap (λ (n : ℕ). (x +ℤ y) +ℤ pos n) (add-mul f.0 g.0 m)
    ∙ +ℤ-swap x y (pos (f.0 * m)) (pos (g.0 * m))
    ∙ ap (λ (z : ℤ). z +ℤ (y +ℤ pos (g.0 * m))) f.2
    ∙ ap (λ (z : ℤ). pos f.1 +ℤ z) g.2 in
    mod_z_lifted m (f.0 + g.0) (f.1 + g.1) (x +ℤ y) h e
    ∙ add-mod f.1 g.1 m
    ∙ rw (mod_z_lifted m f.0 f.1 x h f.2, mod_z_lifted m g.0 g.1 y h g.2)

-- fewer bits
pub mod_z_down : (b j : ℕ) (z : ℤ) → mod_z (2 ^ b) z ≡ mod_z (2 ^ (j + b)) z % 2 ^ b
mod_z_down b j z =
    let f = lift (2 ^ (j + b)) z (pow_pos (j + b)) in
    let e : z +ℤ pos (f.0 * 2 ^ j * 2 ^ b) ≡ pos f.1 =
    ap (λ (n : ℕ). z +ℤ pos n) (mul_assoc f.0 (2 ^ j) (2 ^ b) ∙ ap (λ (n : ℕ). f.0 * n) (sym (pow-add 2 j b))) ∙ f.2 in
    mod_z_lifted (2 ^ b) (f.0 * 2 ^ j) f.1 z (pow_pos b) e
    ∙ sym (mod-mod-pow f.1 j b)
    ∙ ap (λ (n : ℕ). n % 2 ^ b) (sym (mod_z_lifted (2 ^ (j + b)) f.0 f.1 z (pow_pos (j + b)) f.2))

-- ---- signed

mod_z-pick : (b r : ℕ) (t : Bool) → r < 2 ^ b → mod_z (2 ^ b) (pick t (pos r) (negsuc (2 ^ b - suc r))) ≡ r
unfolding mod_z
mod_z-pick b r true h = mod-eq_of_lt h
mod_z-pick b r false h =
    let l : 2 ^ b - suc r < 2 ^ b = omega (arith, pow_pos b) in
    rw (mod-eq_of_lt l) (omega arith)

pub mod_z-signed : (b r : ℕ) → r < 2 ^ b → mod_z (2 ^ b) (signed b r) ≡ r
unfolding signed
mod_z-signed b r h = mod_z-pick b r (ltb (2 * r) (2 ^ b)) h

signed_by : (b : ℕ) (z : ℤ) → InBits (suc b) z → signed (suc b) (mod_z (2 ^ suc b) z) ≡ z
unfolding signed mod_z
signed_by b (pos n) h =
    let l : n < 2 ^ suc b = omega arith in
    rw (mod-eq_of_lt l, lt-ltb (2 * n) (2 ^ suc b) h)
signed_by b (negsuc n) h =
    let l : n < 2 ^ suc b = omega arith in
    let k : 2 ^ suc b ≤ 2 * (2 ^ suc b - suc n) = omega (arith, pow-suc 2 b) in
    rw (mod-eq_of_lt l, le-ltb (2 * (2 ^ suc b - suc n)) (2 ^ suc b) k) (ap negsuc (omega arith))

-- a number of b bits, written and read again
pub signed-mod_z : (b : ℕ) (z : ℤ) → 1 ≤ b → InBits b z → signed b (mod_z (2 ^ b) z) ≡ z
signed-mod_z zero z h k = absurd (omega arith)
signed-mod_z (suc b) z h k = signed_by b z k

-- ---- wrap

pick_in : (b r : ℕ) (t : Bool) → r < 2 ^ b → ltb (2 * r) (2 ^ b) ≡ t → InBits b (pick t (pos r) (negsuc (2 ^ b - suc r)))
pick_in b r true h e = ltb-true (2 * r) (2 ^ b) e
pick_in b r false h e = omega (arith, ltb-false (2 * r) (2 ^ b) e, pow_pos b)

pub wrap_small : (b : ℕ) (z : ℤ) → InBits b (wrap b z)
unfolding wrap signed
wrap_small b z = pick_in b (mod_z (2 ^ b) z) (ltb (2 * mod_z (2 ^ b) z) (2 ^ b)) (mod_z_lt (2 ^ b) z (pow_pos b)) refl

pub wrap_id : (b : ℕ) (z : ℤ) → 1 ≤ b → InBits b z → wrap b z ≡ z
unfolding wrap
wrap_id b z h k = signed-mod_z b z h k

-- b bits read as a signed number
pub wrap_pos : (b r : ℕ) → r < 2 ^ b → wrap b (pos r) ≡ signed b r
unfolding wrap
wrap_pos b r h = ap (signed b) (mod_z_pos (2 ^ b) r h)

pub wrap-same : (b : ℕ) (x y : ℤ) → mod_z (2 ^ b) x ≡ mod_z (2 ^ b) y → wrap b x ≡ wrap b y
unfolding wrap
wrap-same b x y e = ap (signed b) e

pub mod_z-wrap : (b c : ℕ) (z : ℤ) → b ≤ c → mod_z (2 ^ b) (wrap c z) ≡ mod_z (2 ^ b) z
unfolding wrap
mod_z-wrap b c z h =
    let e : (c - b) + b ≡ c = omega arith in
    let g : mod_z (2 ^ (c - b + b)) (wrap c z) ≡ mod_z (2 ^ (c - b + b)) z =
    rw e (mod_z-signed c (mod_z (2 ^ c) z) (mod_z_lt (2 ^ c) z (pow_pos c))) in
    mod_z_down b (c - b) (wrap c z) ∙ ap (λ (n : ℕ). n % 2 ^ b) g ∙ sym (mod_z_down b (c - b) z)

pub wrap-wrap : (b c : ℕ) (z : ℤ) → b ≤ c → wrap b (wrap c z) ≡ wrap b z
wrap-wrap b c z h = wrap-same b (wrap c z) z (mod_z-wrap b c z h)

pub wrap_in_r : (b c : ℕ) (x y : ℤ) → b ≤ c → wrap b (x +ℤ wrap c y) ≡ wrap b (x +ℤ y)
wrap_in_r b c x y h =
    wrap-same b (x +ℤ wrap c y) (x +ℤ y)
    (mod_z_add (2 ^ b) x (wrap c y) (pow_pos b)
    ∙ ap (λ (n : ℕ). (mod_z (2 ^ b) x + n) % 2 ^ b) (mod_z-wrap b c y h)
    ∙ sym (mod_z_add (2 ^ b) x y (pow_pos b)))

pub wrap_in_l : (b c : ℕ) (x y : ℤ) → b ≤ c → wrap b (wrap c x +ℤ y) ≡ wrap b (x +ℤ y)
wrap_in_l b c x y h = ap (wrap b) (+ℤ_comm (wrap c x) y) ∙ wrap_in_r b c y x h ∙ ap (wrap b) (+ℤ_comm y x)

-- what packing takes away, reading adds again
pub undone : (b : ℕ) (p s : ℤ) → 1 ≤ b → b ≤ 32 → InBits b s → wrap b (wrap 32 (p +ℤ wrap b (wrap 32 (s -ℤ p)))) ≡ s
undone b p s h k f =
    wrap-wrap b 32 (p +ℤ wrap b (wrap 32 (s -ℤ p))) k
    ∙ ap (λ (z : ℤ). wrap b (p +ℤ z)) (wrap-wrap b 32 (s -ℤ p) k)
    ∙ wrap_in_r b b p (s -ℤ p) (le_refl b)
    ∙ ap (wrap b) (difference_added p s)
    ∙ wrap_id b s h f

-- ---- a word times a byte

pub product_lt : (a b : ℕ) → a < 4294967296 → b < 256 → a * b < 18446744073709551616
product_lt a b h k = omega (arith, mul-le-mul {n₁ = a} {m₁ = b} {n₂ = 4294967295} {m₂ = 255} (omega arith) (omega arith))
