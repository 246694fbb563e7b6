-- Document 01, "Symbol".
use Rattle.std.specs.Prelude.{ℕ, zero, suc, ◌+◌, ◌-◌, ◌*◌, List, eqb}
use Rattle.rules.specs.Answers.{pick, Read, ◌>>=◌, give}
use Rattle.rules.specs.Bits.{field}

module _ (bits : List ℕ) where
  -- count ones until a zero, at most n; each bit is a field of its own
  unfoldable pub ones : ℕ → Read ℕ
  ones zero = give 0
  ones (suc n) = do
    bit ← field bits 1
    elim bit as (λ d. Read ℕ) [ zero ↦ give 0 | suc d ↦ (do q ← ones n; give (suc q)) ]

  -- what follows q ones: with k = 1 the value is q; else k-1 bits; if not 0, double, add one more bit, subtract 1, giving r. Value = q x m + r
  unfoldable pub rest : ℕ → ℕ → ℕ → Read ℕ
  rest q k m =
      pick (eqb k 1) (give q) (do
        high ← field bits (k - 1)
        elim high as (λ x. Read ℕ) [ zero ↦ give (q * m) | suc x ↦ (do low ← field bits 1; give (q * m + (suc x * 2 + low - 1))) ])

  -- nine ones: the value is the next b raw bits
  unfoldable pub symbol : ℕ → ℕ → ℕ → Read ℕ
  symbol k m b = do
    q ← ones 9
    pick (eqb q 9) (field bits b) (rest q k m)
