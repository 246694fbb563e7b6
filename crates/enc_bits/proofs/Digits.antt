-- Digits in parts, bytes from their bits, and bytes laid into a buffer one after the other.
use Prim.Native.Nat.{ℕ, zero, suc, ◌+◌, ◌*◌, ◌/◌, ◌%◌, ◌^◌, ◌≤◌, ◌<◌}
use mathlib.Core.Path.{◌≡◌, refl, sym, ap, ap₂, ◌∙◌}
use mathlib.Core.List.{List, [], ◌∷◌, ◌++◌, append_assoc, append-nil}
use native.Mathlib.Nat.{mod-eq_of_lt, zero-add, suc-add, add_comm, zero-div, div-add-mod'}
use native.Mathlib.Numerals.{add-one}
use native.Mathlib.Decide.{dec_lt}
use native.Mathlib.Omega.{arith}
use lib.ListN.{length, take, drop, set, get_or, replicate, length-append, length-take, drop_of_length-le}
use lib.Seq.{take_at, drop_at, take_all, take-nil, drop-cons, set-append_seam, set_out, take-append-le}
use lib.Pow.{shr-shr, high}
use Rattle.rules.specs.Bits.{digits, bits_of, bytes_of}
use Rattle.rules.specs.Buffers.{laid}
use Rattle.laws.specs.Bits.{length_digits, num-digits, digits_above, Below}

-- ---- digits

-- the first a digits and the last b
pub digits_split : (a b v : ℕ) → digits (a + b) v ≡ digits a (v / 2 ^ b) ++ digits b v
unfolding digits
digits_split zero b v = rw (zero-add b)
digits_split (suc a) b v =
    rw (suc-add a b)
    (ap₂ (λ (x : ℕ) (t : List ℕ). x % 2 ∷ t) (ap (λ (x : ℕ). v / 2 ^ x) (add_comm a b) ∙ sym (shr-shr v b a)) (digits_split a b v))

pub digits_mod : (n v : ℕ) → digits n (v % 2 ^ n) ≡ digits n v
digits_mod n v = sym (digits_above n (v / 2 ^ n) (v % 2 ^ n)) ∙ ap (digits n) (div-add-mod' v (2 ^ n))

-- two numbers' digits in one
pub digits_join : (a b x y : ℕ) → y < 2 ^ b → digits (a + b) (x * 2 ^ b + y) ≡ digits a x ++ digits b y
digits_join a b x y h =
    digits_split a b (x * 2 ^ b + y) ∙ ap₂ (λ (p q : List ℕ). p ++ q) (ap (digits a) (high x b h)) (digits_above b x y)

pub digits_zero : (n : ℕ) → digits n 0 ≡ replicate n 0
unfolding digits
digits_zero zero = refl
digits_zero (suc n) = ap₂ (λ (x : ℕ) (t : List ℕ). x % 2 ∷ t) (zero-div (2 ^ n)) (digits_zero n)

-- ---- bytes

pub below_snoc : (m : ℕ) (xs : List ℕ) (b : ℕ) → Below m xs → b < m → Below m (xs ++ (b ∷ []))
below_snoc m [] b h l = (l, tt)
below_snoc m (x ∷ xs) b h l = (h.0, below_snoc m xs b h.1 l)

pub bits_snoc : (xs : List ℕ) (b : ℕ) → bits_of (xs ++ (b ∷ [])) ≡ bits_of xs ++ digits 8 b
unfolding bits_of
bits_snoc [] b = append-nil (digits 8 b)
bits_snoc (x ∷ xs) b = ap (λ (t : List ℕ). digits 8 x ++ t) (bits_snoc xs b) ∙ sym (append_assoc (digits 8 x) (bits_of xs) (digits 8 b))

-- bytes come back from their bits
pub bytes_bits : (xs : List ℕ) → Below 256 xs → bytes_of (length xs) (bits_of xs) ≡ xs
unfolding bytes_of bits_of
bytes_bits [] h = refl
bytes_bits (x ∷ xs) h =
    rw (
      take_at (digits 8 x) (bits_of xs) 8 (length_digits 8 x),
      drop_at (digits 8 x) (bits_of xs) 8 (length_digits 8 x),
      num-digits 8 x,
      mod-eq_of_lt h.0,
      bytes_bits xs h.1,
    )

-- ---- buffers

module _ {A : Type 0} where
  pub laid_none : (was : List A) → laid [] was ≡ was
  unfolding laid
  laid_none was = rw take-nil

  -- one more: a place past the end is lost
  pub laid_more : (xs was : List A) (b : A) → set (laid xs was) (length xs) b ≡ laid (xs ++ (b ∷ [])) was
  unfolding laid
  laid_more xs was b = go (dec_lt (length xs) (length was))
    where
      l : length (xs ++ (b ∷ [])) ≡ suc (length xs)
      l = length-append xs (b ∷ []) ∙ add-one (length xs)

      go : Dec (length xs < length was)
          → set (take (length was) xs ++ drop (length xs) was) (length xs) b ≡ take (length was) (xs ++ (b ∷ [])) ++ drop (length (xs ++ (b ∷ []))) was
      go (yes h) =
          rw (take_all (length was) xs (omega arith), take_all (length was) (xs ++ (b ∷ [])) (omega (arith, l)), l, drop-cons was (length xs) b h)
          (set-append_seam xs (get_or was (length xs) b) (drop (suc (length xs)) was) b ∙ sym (append_assoc xs (b ∷ []) (drop (suc (length xs)) was)))
      go (no h) =
          let d : drop (length xs) was ≡ [] = drop_of_length-le was {i = length xs} (omega arith) in
          let d' : drop (length (xs ++ (b ∷ []))) was ≡ [] = drop_of_length-le was {i = length (xs ++ (b ∷ []))} (omega (arith, l)) in
          let t : length (take (length was) xs ++ []) ≤ length xs = omega (arith, length-append (take (length was) xs) [], length-take (length was) xs) in
          rw (d, d', take-append-le (length was) xs (b ∷ []) (omega arith)) (set_out (take (length was) xs ++ []) (length xs) b t)
