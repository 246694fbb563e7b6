-- Document 01, "Prediction": samples from residuals, and the coefficients after every sample. Lists of samples and of
-- coefficients are oldest first. Every sum, difference and product wraps at 32 bits, and coefficients at 16.
use Rattle.std.specs.Prelude.{ℕ, ◌+◌, ◌-◌, ◌^◌, true, false, List, [], ◌∷◌, ◌++◌, leb, eqb, length, get_or, drop, ℤ, pos, ◌+ℤ◌}
use Rattle.std.specs.Int.Signed.{le_z}
use Rattle.rules.specs.Answers.{pick}
use Rattle.rules.specs.Words.{wrap, add32, sub32, mul32, shift_right, sign, is_zero}

-- the sum of (x_j - mean) x c_j, oldest first
unfoldable pub weighed : ℤ → ℤ → List ℤ → List ℤ → ℤ
weighed mean sum [] cs = sum
weighed mean sum (x ∷ xs) [] = sum
weighed mean sum (x ∷ xs) (c ∷ cs) = weighed mean (add32 sum (mul32 (sub32 x mean) c)) xs cs

-- add 2^(quant-1), shift right arithmetically by quant
unfoldable pub guess : ℕ → ℤ → List ℤ → List ℤ → ℤ
guess quant mean xs cs = shift_right (add32 (weighed mean (pos 0) xs cs) (pos (2 ^ (quant - 1)))) quant

-- the running error loses sign(e) x ((d x t) >> quant) x (j+1)
unfoldable pub error_left : ℕ → ℤ → ℕ → ℤ → ℤ → ℤ → ℤ
error_left quant s j error d t = sub32 error (mul32 (mul32 s (shift_right (mul32 d t) quant)) (pos (j + 1)))

-- from oldest j = 0: d = x_j - mean, t = sign(d) x sign(e); c_j gains t; stop when the running error is <= 0
unfoldable pub adapted : ℕ → ℤ → ℤ → ℕ → ℤ → List ℤ → List ℤ → List ℤ
adapted quant mean s j error [] cs = cs
adapted quant mean s j error (x ∷ xs) [] = []
adapted quant mean s j error (x ∷ xs) (c ∷ cs) =
    let d = sub32 x mean in
    let t = mul32 (sign d) s in
    let left = error_left quant s j error d t in
    wrap 16 (c +ℤ t) ∷ elim (le_z left (pos 0)) [ true ↦ cs | false ↦ adapted quant mean s (j + 1) left xs cs ]

-- mean is the sample order+1 back
unfoldable pub mean_of : List ℤ → List ℤ → ℤ
mean_of past cs = get_or past (length past - length cs - 1) (pos 0)

-- the last `order` samples
unfoldable pub window : List ℤ → List ℤ → List ℤ
window past cs = drop (length past - length cs) past

-- what the residual is added to: the previous sample for samples 1..order; later the guess and the mean
unfoldable pub forecast : ℕ → List ℤ → List ℤ → ℤ
forecast quant past cs =
    pick (leb (length past) (length cs)) (get_or past (length past - 1) (pos 0))
    (add32 (guess quant (mean_of past cs) (window past cs) cs) (mean_of past cs))

-- sample 0 is as read; later ones are sign-extended to b bits
unfoldable pub next : ℕ → ℕ → List ℤ → List ℤ → ℤ → ℤ
next b quant past cs e = pick (eqb (length past) 0) e (wrap b (add32 (forecast quant past cs) e))

-- if e is not 0, the coefficients adapt after a sample past the first order+1; the running error starts at sign(e) x e
unfoldable pub coefs_after : ℕ → List ℤ → List ℤ → ℤ → List ℤ
coefs_after quant past cs e =
    pick (leb (length past) (length cs)) cs
    (pick (is_zero e) cs (adapted quant (mean_of past cs) (sign e) 0 (mul32 (sign e) e) (window past cs) cs))

-- values (samples when reading, residuals when writing), and the coefficients after each
pub record Adapted : Type 0 where
  pub values : List ℤ
  pub coefs : List (List ℤ)

abbrev pub before : ℤ → List ℤ → Adapted → Adapted
before x cs a = record { values = x ∷ a.values; coefs = cs ∷ a.coefs }

-- the samples that follow `past`
unfoldable pub predicted : ℕ → ℕ → List ℤ → List ℤ → List ℤ → Adapted
predicted b quant past cs [] = record { values = []; coefs = [] }
predicted b quant past cs (e ∷ es) =
    let s = next b quant past cs e in
    let cs' = coefs_after quant past cs e in
    before s cs' (predicted b quant (past ++ (s ∷ [])) cs' es)

-- mode 15 first adds to each sample from 1 on its already summed predecessor, sign-extended to b bits
unfoldable pub summed_from : ℕ → ℤ → List ℤ → List ℤ
summed_from b last [] = []
summed_from b last (e ∷ es) = let s = wrap b (add32 last e) in s ∷ summed_from b s es

unfoldable pub summed : ℕ → List ℤ → List ℤ
summed b [] = []
summed b (x ∷ xs) = x ∷ summed_from b x xs
