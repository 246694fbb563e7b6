-- Document 01, "Symbol": a symbol that was written is read back.
use Rattle.std.specs.Prelude.{◌≡◌, refl, Bool, true, false, List, [], ◌∷◌, ◌++◌, ℕ, zero, suc, ◌+◌, ◌-◌, ◌*◌, ◌/◌, ◌%◌, ◌^◌, ◌≤◌, ◌<◌, length, replicate, ltb}
use Rattle.std.proofs.Common.{sym, ap, ap₂, ◌∙◌, append_assoc, pow-suc, div-one, mod-lt, div-add-mod', one-add, arith, length-append, shr-shr, pow_mono, ne_eqb, ltb-true}
use Rattle.std.proofs.lemmas.List.{length-replicate}
use Rattle.rules.specs.Answers.{got, bind}
use Rattle.rules.specs.Bits.{digits, num}
use Rattle.rules.specs.Symbol.{ones, rest, symbol}
use Rattle.rules.specs.Writer.{rest_bits, symbol_bits}
use Rattle.laws.specs.Bits.{At, at_first, at_next, field_at, field-digits, field_bit, length_digits, next_field}

-- ---- ones

ones_at : {bits : List ℕ} {p : ℕ} (n q : ℕ) → q < n → At bits p (replicate q 1 ++ 0 ∷ []) → ones bits n p ≡ got q (p + (q + 1))
unfolding ones bind
ones_at zero q h a = absurd (omega arith)
ones_at (suc n) zero h a = rw (field_bit 0 a)
ones_at {p = p} (suc n) (suc q) h a =
    rw (field_bit 1 (at_first (1 ∷ []) _ a), ones_at {p = p + length {A = ℕ} (1 ∷ [])} n q (omega arith) (at_next (1 ∷ []) _ a)) (ap (got (suc q)) (omega arith))

ones_full : {bits : List ℕ} {p : ℕ} (n : ℕ) → At bits p (replicate n 1) → ones bits n p ≡ got n (p + n)
unfolding ones bind
ones_full zero a = ap (got 0) (omega arith)
ones_full {p = p} (suc n) a =
    rw (field_bit 1 (at_first (1 ∷ []) _ a), ones_full {p = p + length {A = ℕ} (1 ∷ [])} n (at_next (1 ∷ []) _ a)) (ap (got (suc n)) (omega arith))

-- ---- the rest

-- the last digit apart
digits_last : (n v : ℕ) → digits (suc n) v ≡ digits n (v / 2) ++ (v % 2 ∷ [])
unfolding digits
digits_last zero v = ap (λ (x : ℕ). x % 2 ∷ []) (div-one v)
digits_last (suc n) v =
    ap₂
    (λ (x : ℕ) (t : List ℕ). x % 2 ∷ t)
    (ap (λ (x : ℕ). v / 2 ^ x) (sym (one-add n)) ∙ sym (shr-shr v 1 n))
    (digits_last n v)

num-zeros : (n : ℕ) → num (replicate n 0) ≡ 0
unfolding num
num-zeros zero = refl
num-zeros (suc n) = omega (arith, num-zeros n)

rest_zero : {bits : List ℕ} {p : ℕ} (q j m : ℕ) → At bits p (replicate (suc j) 0) → rest bits q (suc (suc j)) m p ≡ got (q * m) (p + suc j)
unfolding rest bind
rest_zero q j m a =
    let e : suc (suc j) - 1 ≡ suc j = omega arith in
    rw (ne_eqb (suc (suc j)) 1 (omega arith), e, field_at (suc j) (replicate (suc j) 0) (length-replicate (suc j) 0) a, num-zeros (suc j))

-- r + 1 in two parts: k-1 bits, and one more
rest_more : {bits : List ℕ} {p : ℕ} (q j m x d : ℕ) → suc x < 2 ^ suc j → At bits p (digits (suc j) (suc x) ++ (d ∷ []))
    → rest bits q (suc (suc j)) m p ≡ got (q * m + (suc x * 2 + d - 1)) (p + suc j + 1)
unfolding rest bind
rest_more q j m x d h a =
    let e : suc (suc j) - 1 ≡ suc j = omega arith in
    let r = next_field (suc j) (suc x) (d ∷ []) h a in
    rw (ne_eqb (suc (suc j)) 1 (omega arith), e, r.0, field_bit d r.1)

rest_bits_zero : (j : ℕ) → rest_bits (suc (suc j)) 0 ≡ replicate (suc j) 0
unfolding rest_bits
rest_bits_zero j =
    let e : suc (suc j) - 1 ≡ suc j = omega arith in
    rw (ne_eqb (suc (suc j)) 1 (omega arith), e)

rest_bits-more : (j x : ℕ) → rest_bits (suc (suc j)) (suc x) ≡ digits (suc j) ((suc x + 1) / 2) ++ ((suc x + 1) % 2 ∷ [])
unfolding rest_bits
rest_bits-more j x = rw (ne_eqb (suc (suc j)) 1 (omega arith), ne_eqb (suc x) 0 (omega arith)) (digits_last (suc j) (suc x + 1))

rest_at : {bits : List ℕ} {p : ℕ} (q k r : ℕ) → 1 ≤ k → r < 2 ^ k - 1 → At bits p (rest_bits k r)
    → rest bits q k (2 ^ k - 1) p ≡ got (q * (2 ^ k - 1) + r) (p + length (rest_bits k r))
unfolding rest rest_bits
rest_at q zero r l h a = absurd (omega arith)
rest_at q (suc zero) r l h a = ap₂ (λ (v n : ℕ). got v n) (omega arith) (omega arith)
rest_at q (suc (suc j)) zero l h a =
    rest_zero q j (2 ^ suc (suc j) - 1) (rw rest_bits_zero at a)
    ∙ ap₂ (λ (v n : ℕ). got v n) (omega arith) (omega (arith, ap length (rest_bits_zero j), length-replicate {A = ℕ} (suc j) 0))
rest_at q (suc (suc j)) (suc x) l h a =
    let y : ℕ = (suc x + 1) / 2 - 1 in
    let ey : (suc x + 1) / 2 ≡ suc y = omega arith in
    let w = pow-suc 2 (suc j) in
    let eb : rest_bits (suc (suc j)) (suc x) ≡ digits (suc j) (suc y) ++ ((suc x + 1) % 2 ∷ []) = rw (← ey) (rest_bits-more j x) in
    rest_more q j (2 ^ suc (suc j) - 1) y ((suc x + 1) % 2) (omega arith) (rw eb at a)
    ∙ ap₂
    (λ (v n : ℕ). got v n)
    (omega arith)
    (omega (arith, ap length eb, length-append (digits (suc j) (suc y)) ((suc x + 1) % 2 ∷ []), length_digits (suc j) (suc y)))

-- ---- the symbol

m_pos : (k : ℕ) → 1 ≤ k → 0 < 2 ^ k - 1
m_pos k h = omega (arith, pow_mono h)

symbol_short : {bits : List ℕ} {p : ℕ} (k b s : ℕ) → 1 ≤ k → s / (2 ^ k - 1) < 9
    → At bits p (replicate (s / (2 ^ k - 1)) 1 ++ 0 ∷ rest_bits k (s % (2 ^ k - 1)))
    → symbol bits k (2 ^ k - 1) b p ≡ got s (p + (s / (2 ^ k - 1) + 1 + length (rest_bits k (s % (2 ^ k - 1)))))
unfolding symbol bind
symbol_short {bits} {p} k b s hk h a =
    let m : ℕ = 2 ^ k - 1 in
    let q : ℕ = s / m in
    let front : List ℕ = replicate q 1 ++ 0 ∷ [] in
    let l : length front ≡ q + 1 = length-append (replicate q 1) (0 ∷ []) ∙ ap (λ (x : ℕ). x + 1) (length-replicate q 1) in
    let a' : At bits p (front ++ rest_bits k (s % m)) = rw (append_assoc (replicate q 1) (0 ∷ []) (rest_bits k (s % m))) a in
    let r : At bits (p + (q + 1)) (rest_bits k (s % m)) = rw l at (at_next front _ a') in
    rw (ones_at 9 q h (at_first front _ a'), ne_eqb q 9 (omega arith), rest_at q k (s % m) hk (mod-lt s (m_pos k hk)) r)
    (ap₂ (λ (v n : ℕ). got v n) (div-add-mod' s m) (omega arith))

symbol_escape : {bits : List ℕ} {p : ℕ} (k b s : ℕ) → s < 2 ^ b → At bits p (replicate 9 1 ++ digits b s)
    → symbol bits k (2 ^ k - 1) b p ≡ got s (p + (9 + b))
unfolding symbol bind
symbol_escape k b s h a =
    rw (ones_full 9 (at_first (replicate 9 1) (digits b s) a), field-digits b s h (at_next (replicate 9 1) (digits b s) a))
    (ap (got s) (omega arith))

pub symbol_at : {bits : List ℕ} {p : ℕ} (k b s : ℕ) → 1 ≤ k → s < 2 ^ b → At bits p (symbol_bits k (2 ^ k - 1) b s)
    → symbol bits k (2 ^ k - 1) b p ≡ got s (p + length (symbol_bits k (2 ^ k - 1) b s))
unfolding symbol_bits
symbol_at {bits} {p} k b s hk h a = go (ltb (s / (2 ^ k - 1)) 9) refl
  where
    m : ℕ
    m = 2 ^ k - 1

    go : (c : Bool) → ltb (s / m) 9 ≡ c → symbol bits k m b p ≡ got s (p + length (symbol_bits k m b s))
    go true e =
        let w : List ℕ = replicate (s / m) 1 ++ 0 ∷ rest_bits k (s % m) in
        let l : symbol_bits k m b s ≡ w = rw e in
        symbol_short k b s hk (ltb-true (s / m) 9 e) (rw e at a)
        ∙ ap
        (got s)
        (omega (arith, ap length l, length-append (replicate (s / m) 1) (0 ∷ rest_bits k (s % m)), length-replicate {A = ℕ} (s / m) 1))
    go false e =
        let l : symbol_bits k m b s ≡ replicate 9 1 ++ digits b s = rw e in
        symbol_escape k b s h (rw e at a) ∙ ap (got s) (omega (arith, ap length l, length_digits b s))
