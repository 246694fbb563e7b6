-- Laws of prediction: it undoes the writer's residuals, with the same coefficients after every sample.
use Rattle.std.specs.Prelude.{ℕ, suc, ◌≤◌, ◌≡◌, refl, Bool, true, false, List, [], ◌∷◌, ◌++◌, eqb, length, ℤ}
use Rattle.std.proofs.Common.{ap, ◌∙◌}
use Rattle.rules.specs.Answers.{pick}
use Rattle.rules.specs.Words.{wrap, sub32}
use Rattle.rules.specs.Prediction.{forecast, next, coefs_after, Adapted, before, predicted}
use Rattle.rules.specs.Writer.{residual, residuals}
use Rattle.laws.specs.Words.{InBits, none, one, AllIn, wrap_small, undone}

-- ---- one sample

next_by : (b quant : ℕ) (past cs : List ℤ) (x : ℤ) → 1 ≤ b → b ≤ 32 → InBits b x → (t : Bool) → eqb (length past) 0 ≡ t
    → next b quant past cs (residual b quant past cs x) ≡ x
unfolding next residual
next_by b quant past cs x h k f true e = rw e
next_by b quant past cs x h k f false e = rw e (undone b (forecast quant past cs) x h k f)

pub next-residual : (b quant : ℕ) (past cs : List ℤ) (x : ℤ) → 1 ≤ b → b ≤ 32 → InBits b x
    → next b quant past cs (residual b quant past cs x) ≡ x
next-residual b quant past cs x h k f = next_by b quant past cs x h k f (eqb (length past) 0) refl

residual_by : (b : ℕ) (x f : ℤ) (t : Bool) → InBits b x → InBits b (pick t x (wrap b (sub32 x f)))
residual_by b x f true h = h
residual_by b x f false h = wrap_small b (sub32 x f)

pub residual_in : (b quant : ℕ) (past cs : List ℤ) (x : ℤ) → InBits b x → InBits b (residual b quant past cs x)
unfolding residual
residual_in b quant past cs x h = residual_by b x (forecast quant past cs) (eqb (length past) 0) h

-- ---- all samples

pub predicted-residuals : (b quant : ℕ) (past cs : List ℤ) {xs : List ℤ} → 1 ≤ b → b ≤ 32 → AllIn b xs
    → predicted b quant past cs (residuals b quant past cs xs).values ≡ record { values = xs; coefs = (residuals b quant past cs xs).coefs }
unfolding predicted residuals
predicted-residuals b quant past cs h k none = refl
predicted-residuals b quant past cs h k (one {x = x} {xs = xs} f fs) =
    let cs' = coefs_after quant past cs (residual b quant past cs x) in
    ap (λ (s : ℤ). before s cs' (predicted b quant (past ++ (s ∷ [])) cs' (residuals b quant (past ++ (x ∷ [])) cs' xs).values))
    (next-residual b quant past cs x h k f)
    ∙ ap (before x cs') (predicted-residuals b quant (past ++ (x ∷ [])) cs' h k fs)

pub residuals_in : (b quant : ℕ) (past cs : List ℤ) {xs : List ℤ} → AllIn b xs → AllIn b (residuals b quant past cs xs).values
unfolding residuals
residuals_in b quant past cs none = none
residuals_in b quant past cs (one {x = x} f fs) =
    one (residual_in b quant past cs x f) (residuals_in b quant (past ++ (x ∷ [])) (coefs_after quant past cs (residual b quant past cs x)) fs)

-- as many values, and as many lists of coefficients
pub record Lengths (n : ℕ) (a : Adapted) : Type 0 where
  pub of_values : length a.values ≡ n
  pub of_coefs : length a.coefs ≡ n

lengths_before : {n : ℕ} {a : Adapted} (x : ℤ) (cs : List ℤ) → Lengths n a → Lengths (suc n) (before x cs a)
lengths_before x cs l = record { of_values = ap suc l.of_values; of_coefs = ap suc l.of_coefs }

pub residuals-length : (b quant : ℕ) (past cs xs : List ℤ) → Lengths (length xs) (residuals b quant past cs xs)
unfolding residuals
residuals-length b quant past cs [] = record { of_values = refl; of_coefs = refl }
residuals-length b quant past cs (x ∷ xs) =
    let e = residual b quant past cs x in
    let cs' = coefs_after quant past cs e in
    lengths_before e cs' (residuals-length b quant (past ++ (x ∷ [])) cs' xs)

pub predicted-length : (b quant : ℕ) (past cs es : List ℤ) → Lengths (length es) (predicted b quant past cs es)
unfolding predicted
predicted-length b quant past cs [] = record { of_values = refl; of_coefs = refl }
predicted-length b quant past cs (e ∷ es) =
    let s = next b quant past cs e in
    let cs' = coefs_after quant past cs e in
    lengths_before s cs' (predicted-length b quant (past ++ (s ∷ [])) cs' es)
