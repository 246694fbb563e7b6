-- Document 01, "Bits": digits and the numbers they write, reading bits that lie at a place, bits into bytes and back.
use Rattle.std.specs.Prelude.{◌≡◌, refl, List, [], ◌∷◌, ◌++◌, ℕ, zero, suc, ◌+◌, ◌*◌, ◌/◌, ◌%◌, ◌^◌, ◌≤◌, ◌<◌, length, take, drop, replicate}
use Rattle.std.proofs.Common.{sym, ap, ap₂, ◌∙◌, subst, append_assoc, mod-eq_of_lt, mul-one, add-zero, mul_assoc, mul_comm, pow-suc, one-add, arith, length-append, length-drop, take-append-drop, take_at, drop-drop, length-take-le, pow_pos, le-leb}
use Rattle.std.proofs.Math.Nat.{mod-one, mul-add-mod_self_right, mul-add-div_right}
use Rattle.std.proofs.lemmas.List.{length-replicate}
use Rattle.std.proofs.Math.Seq.{drop-append_seam}
use Rattle.std.proofs.lemmas.Nat.{mod-pow-add}
use Rattle.std.proofs.Math.Pow.{high}
use Rattle.rules.specs.Answers.{got}
use Rattle.rules.specs.Bits.{digits, num, bits_of, bytes_of, to_edge, padded, within, field}

-- ---- digits

pub length_digits : (n v : ℕ) → length (digits n v) ≡ n
unfolding digits
length_digits zero v = refl
length_digits (suc n) v = ap suc (length_digits n v)

pub num-digits : (n v : ℕ) → num (digits n v) ≡ v % 2 ^ n
unfolding num digits
num-digits zero v = sym (mod-one v)
num-digits (suc n) v =
    ap₂ (λ (l r : ℕ). v / 2 ^ n % 2 * 2 ^ l + r) (length_digits n v) (num-digits n v)
    ∙ sym (mod-pow-add v 1 n)
    ∙ ap (λ (x : ℕ). v % 2 ^ x) (one-add n)

-- ---- the bits w lie at place p

pub record At (bits : List ℕ) (p : ℕ) (w : List ℕ) : Type 0 where
  pub post : List ℕ
  pub here : drop p bits ≡ w ++ post
  pub fits : p + length w ≤ length bits

pub at_first : {bits : List ℕ} {p : ℕ} (v w : List ℕ) → At bits p (v ++ w) → At bits p v
at_first v w a = record {
  post = w ++ a.post;
  here = a.here ∙ append_assoc v w a.post;
  fits = omega (arith, a.fits, length-append v w);
}

pub at_next : {bits : List ℕ} {p : ℕ} (v w : List ℕ) → At bits p (v ++ w) → At bits (p + length v) w
at_next {bits} {p} v w a = record {
  post = a.post;
  here =
      sym (drop-drop (length v) p bits) ∙ ap (drop (length v)) (a.here ∙ append_assoc v w a.post) ∙ drop-append_seam v (w ++ a.post);
  fits = omega (arith, a.fits, length-append v w);
}

pub at_mid : (pre w post : List ℕ) → At (pre ++ (w ++ post)) (length pre) w
at_mid pre w post = record {
  post = post;
  here = drop-append_seam pre (w ++ post);
  fits = omega (arith, length-append pre (w ++ post), length-append w post);
}

-- ---- fields

pub field_at : {bits : List ℕ} {p : ℕ} (n : ℕ) (w : List ℕ) → length w ≡ n → At bits p w → field bits n p ≡ got (num w) (p + n)
unfolding within
field_at {bits} {p} n w l a =
    let fit : p + n ≤ length bits = omega (arith, a.fits) in
    rw (le-leb, a.here, take_at)

pub field-digits : {bits : List ℕ} {p : ℕ} (n v : ℕ) → v < 2 ^ n → At bits p (digits n v) → field bits n p ≡ got v (p + n)
field-digits n v h a = field_at n (digits n v) (length_digits n v) a ∙ rw (num-digits, mod-eq_of_lt)

pub field_bit : {bits : List ℕ} {p : ℕ} (d : ℕ) → At bits p (d ∷ []) → field bits 1 p ≡ got d (p + 1)
unfolding num
field_bit d a = field_at 1 (d ∷ []) refl a ∙ rw (mul-one, add-zero)

-- a field is read, and what follows it lies after it
pub next_field : {bits : List ℕ} {p : ℕ} (n v : ℕ) (w : List ℕ) → v < 2 ^ n → At bits p (digits n v ++ w)
    → (field bits n p ≡ got v (p + n)) × At bits (p + n) w
next_field {bits} {p} n v w h a = (
  field-digits n v h (at_first (digits n v) w a),
  subst (λ (x : ℕ). At bits (p + x) w) (length_digits n v) (at_next (digits n v) w a),
)

-- every number is below m
abbrev pub Below : ℕ → List ℕ → Type 0
Below m [] = Unit {0}
Below m (v ∷ vs) = (v < m) × Below m vs

-- ---- every bit is 0 or 1

abbrev pub Bin : List ℕ → Type 0
Bin w = Below 2 w

pub bin_append : (v w : List ℕ) → Bin v → Bin w → Bin (v ++ w)
bin_append [] w a b = b
bin_append (d ∷ v) w a b = (a.0, bin_append v w a.1 b)

pub bin_replicate : (n d : ℕ) → d < 2 → Bin (replicate n d)
bin_replicate zero d h = tt
bin_replicate (suc n) d h = (h, bin_replicate n d h)

pub bin_digits : (n v : ℕ) → Bin (digits n v)
unfolding digits
bin_digits zero v = tt
bin_digits (suc n) v = (omega arith, bin_digits n v)

pub bin_take : (n : ℕ) (w : List ℕ) → Bin w → Bin (take n w)
bin_take zero w a = tt
bin_take (suc n) [] a = tt
bin_take (suc n) (d ∷ w) a = (a.0, bin_take n w a.1)

pub bin_drop : (n : ℕ) (w : List ℕ) → Bin w → Bin (drop n w)
bin_drop zero w a = a
bin_drop (suc n) [] a = tt
bin_drop (suc n) (d ∷ w) a = bin_drop n w a.1

pub num_lt : (w : List ℕ) → Bin w → num w < 2 ^ length w
unfolding num
num_lt [] a = omega arith
num_lt (zero ∷ ds) a = omega (arith, num_lt ds a.1, pow-suc 2 (length ds))
num_lt (suc zero ∷ ds) a = omega (arith, num_lt ds a.1, pow-suc 2 (length ds))
num_lt (suc (suc d) ∷ ds) a = absurd (omega (arith, a.0))

-- digits above the n lowest are not seen
pub digits_above : (n x v : ℕ) → digits n (x * 2 ^ n + v) ≡ digits n v
unfolding digits
digits_above zero x v = refl
digits_above (suc n) x v =
    let e : x * 2 ^ suc n ≡ x * 2 * 2 ^ n = ap (λ (y : ℕ). x * y) (pow-suc 2 n ∙ mul_comm (2 ^ n) 2) ∙ sym (mul_assoc x 2 (2 ^ n)) in
    let h : (x * 2 * 2 ^ n + v) / 2 ^ n % 2 ≡ v / 2 ^ n % 2 =
    ap (λ (y : ℕ). y % 2) (mul-add-div_right (pow_pos n) (x * 2) v) ∙ mul-add-mod_self_right x 2 (v / 2 ^ n) in
    ap (λ (y : ℕ). digits (suc n) (y + v)) e ∙ ap₂ (λ (y : ℕ) (t : List ℕ). y ∷ t) h (digits_above n (x * 2) v)

pub digits-num : (w : List ℕ) → Bin w → digits (length w) (num w) ≡ w
unfolding digits num
digits-num [] a = refl
digits-num (d ∷ ds) a =
    ap₂
    (λ (y : ℕ) (t : List ℕ). y ∷ t)
    (ap (λ (y : ℕ). y % 2) (high d (length ds) (num_lt ds a.1)) ∙ mod-eq_of_lt a.0)
    (digits_above (length ds) d (num ds) ∙ digits-num ds a.1)

-- ---- bytes

pub length-bits_of : (xs : List ℕ) → length (bits_of xs) ≡ length xs * 8
unfolding bits_of
length-bits_of [] = refl
length-bits_of (x ∷ xs) = omega (arith, length-append (digits 8 x) (bits_of xs), length_digits 8 x, length-bits_of xs)

length-bytes_of : (n : ℕ) (w : List ℕ) → length (bytes_of n w) ≡ n
unfolding bytes_of
length-bytes_of zero w = refl
length-bytes_of (suc n) w = ap suc (length-bytes_of n (drop 8 w))

bits_bytes_of : (n : ℕ) (w : List ℕ) → Bin w → length w ≡ n * 8 → bits_of (bytes_of n w) ≡ w
unfolding bytes_of bits_of
bits_bytes_of zero [] a h = refl
bits_bytes_of zero (d ∷ w) a h = absurd (omega arith)
bits_bytes_of (suc n) w a h =
    let l : length (take 8 w) ≡ 8 = length-take-le 8 w (omega arith) in
    let e : digits 8 (num (take 8 w)) ≡ take 8 w =
    ap (λ (k : ℕ). digits k (num (take 8 w))) (sym l) ∙ digits-num (take 8 w) (bin_take 8 w a) in
    rw (e, bits_bytes_of n (drop 8 w) (bin_drop 8 w a) (omega (arith, length-drop 8 w))) (take-append-drop 8 w)

pub length-padded : (w : List ℕ) → length (padded w) ≡ (length w + 7) / 8
unfolding padded
length-padded w = length-bytes_of ((length w + 7) / 8) (w ++ replicate (to_edge (length w)) 0)

pub bits_padded : (w : List ℕ) → Bin w → bits_of (padded w) ≡ w ++ replicate (to_edge (length w)) 0
unfolding padded
bits_padded w a =
    let z : List ℕ = replicate (to_edge (length w)) 0 in
    let l : length z ≡ to_edge (length w) = length-replicate (to_edge (length w)) 0 in
    bits_bytes_of
    ((length w + 7) / 8)
    (w ++ z)
    (bin_append w z a (bin_replicate (to_edge (length w)) 0 (omega arith)))
    (length-append w z ∙ omega arith)
