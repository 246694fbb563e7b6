-- The bits of bytes: each bit by its byte, and the number that a stretch of them writes, bit by bit.
use Rattle.std.specs.Prelude.{◌≡◌, List, [], ◌∷◌, ◌++◌, ℕ, zero, suc, ◌+◌, ◌-◌, ◌*◌, ◌/◌, ◌%◌, ◌^◌, ◌≤◌, ◌<◌, length, take, drop, get_or, EachIndex}
use Rattle.std.proofs.Common.{pow-suc, mul_assoc, add-one, arith, length-append, length-drop, take-suc, get_or-drop, get_or-append-add}
use Rattle.std.proofs.Math.ListN.{get_or-append}
use Rattle.std.proofs.Common.{w16, w32}
use Rattle.std.specs.Int.{from_be_bytes}
use Rattle.rules.specs.Bits.{digits, num, bits_of}
use Rattle.rules.specs.Cookie.{big_endian}
use Rattle.laws.specs.Bits.{length-bits_of}

digit_at : (n v i : ℕ) → i < n → get_or (digits n v) i 0 ≡ v / 2 ^ (n - 1 - i) % 2
unfolding digits
digit_at zero v i h = absurd (omega arith)
digit_at (suc n) v zero h = let e : suc n - 1 - 0 ≡ n = omega arith in rw e
digit_at (suc n) v (suc i) h = let e : suc n - 1 - suc i ≡ n - 1 - i = omega arith in rw e (digit_at n v i (omega arith))

pub bit_of_lem : (xs : List ℕ) (i j : ℕ) → j < 8 → i < length xs → get_or (bits_of xs) (i * 8 + j) 0 ≡ get_or xs i 0 / 2 ^ (7 - j) % 2
unfolding bits_of digits
bit_of_lem [] i j l h = absurd (omega arith)
bit_of_lem (x ∷ xs) zero j l h =
    let e : zero * 8 + j ≡ j = omega arith in
    rw (e, get_or-append (digits 8 x) (bits_of xs) 0 j (omega arith)) (digit_at 8 x j l)
bit_of_lem (x ∷ xs) (suc i) j l h =
    let e : suc i * 8 + j ≡ 8 + (i * 8 + j) = omega arith in
    rw (e, get_or-append-add (digits 8 x) (bits_of xs) (i * 8 + j) 0) (bit_of_lem xs i j l (omega arith))

-- each is 0 or 1
abbrev pub Binary : List ℕ → Type 0
Binary bits = EachIndex bits (λ i. get_or bits i 0 < 2)

pub bit_lt : (xs : List ℕ) → Binary (bits_of xs)
bit_lt xs i h =
    let l : i < length xs * 8 = rw length-bits_of at h in
    let e : i ≡ i / 8 * 8 + i % 8 = omega arith in
    rw e (rw (bit_of_lem xs (i / 8) (i % 8) (omega arith) (omega arith)) (omega arith))

num_last : (ds : List ℕ) (d : ℕ) → num (ds ++ (d ∷ [])) ≡ num ds * 2 + d
unfolding num
num_last [] d = omega arith
num_last (x ∷ ds) d = rw (num_last ds d, length-append ds (d ∷ []), add-one, pow-suc) (omega (arith, mul_assoc x (2 ^ length ds) 2))

pub num-next : (bits : List ℕ) (n p : ℕ) → p + n < length bits
    → num (take (n + 1) (drop p bits)) ≡ num (take n (drop p bits)) * 2 + get_or bits (p + n) 0
num-next bits n p h =
    let l : n < length (drop p bits) = simp length-drop (omega arith) in
    rw (add-one, take-suc (drop p bits) n 0 l, num_last, get_or-drop)

pub field_lt : (bits : List ℕ) → Binary bits → (n p : ℕ) → p + n ≤ length bits → num (take n (drop p bits)) < 2 ^ n
unfolding num
field_lt bits b zero p h = omega arith
field_lt bits b (suc n) p h =
    rw (rw (add-one n) at (num-next bits n p (omega arith)))
    (omega (arith, pow-suc 2 n, b (p + n) (omega arith), field_lt bits b n p (omega arith)))

-- bytes as the library has them, the highest first
pub be_two : (xs : List ℕ) → length xs ≡ 2 → from_be_bytes w16 xs ≡ big_endian xs
unfolding big_endian
be_two [] h = absurd (omega arith)
be_two (a ∷ []) h = absurd (omega arith)
be_two (a ∷ (b ∷ [])) h = omega arith
be_two (a ∷ (b ∷ (c ∷ xs))) h = absurd (omega arith)

pub be_four : (xs : List ℕ) → length xs ≡ 4 → from_be_bytes w32 xs ≡ big_endian xs
unfolding big_endian
be_four [] h = absurd (omega arith)
be_four (a ∷ []) h = absurd (omega arith)
be_four (a ∷ (b ∷ [])) h = absurd (omega arith)
be_four (a ∷ (b ∷ (c ∷ []))) h = absurd (omega arith)
be_four (a ∷ (b ∷ (c ∷ (d ∷ [])))) h = omega arith
be_four (a ∷ (b ∷ (c ∷ (d ∷ (e ∷ xs))))) h = absurd (omega arith)
