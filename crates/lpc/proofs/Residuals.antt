-- One residual where what is past is the front of a buffer, and a turn of the loop that leaves them all after their samples.
use Prim.Native.Nat.{ℕ, suc, ◌+◌, ◌≤◌, ◌<◌}
use mathlib.Core.Path.{◌≡◌, refl}
use mathlib.Core.List.{List, [], ◌∷◌, ◌++◌, append_assoc, append-nil}
use native.Mathlib.Numerals.{add-one}
use native.Mathlib.Nat.{add-zero, le_of_lt}
use native.Mathlib.Omega.{arith}
use borrow.Author.Tests.{ne_eqb}
use lib.ListN.{length, drop, take, get_or, set, length-take, drop_of_length-le}
use lib.Seq.{length-take-le, get_or-take, take_all, take-suc, drop-cons, take-suc-set, take-set-le}
use lib.IntN.{ℤ, pos}
use Rattle.rules.specs.Words.{wrap, sub32}
use Rattle.rules.specs.Prediction.{forecast, coefs_after}
use Rattle.rules.specs.Writer.{residual, residuals}
use Rattle.lpc.specs.Predicts.{last_or, Leaves}

-- ---- one residual

module _ (b quant i : ℕ) (buf cs : List ℤ) where
  pub residual-first : i ≡ 0 → residual b quant (take i buf) cs (get_or buf i (pos 0)) ≡ get_or buf 0 (pos 0)
  unfolding residual
  residual-first e = rw e

  pub residual-later : i < length buf → 1 ≤ i
      → residual b quant (take i buf) cs (get_or buf i (pos 0)) ≡ wrap b (sub32 (get_or buf i (pos 0)) (forecast quant (take i buf) cs))
  unfolding residual
  residual-later h k =
      let p : i ≡ 0 → ⊥ = λ z. omega arith in
      rw (length-take-le i buf (le_of_lt h), ne_eqb i 0 p)

-- ---- all residuals

-- the samples with the residuals so far and those that follow are the whole, and the coefficients end as they do from the start
pub record Leaving (b quant n : ℕ) (cs₀ buf₀ : List ℤ) (i : ℕ) (cs buf : List ℤ) : Type 0 where
  pub values : take (n + i) buf ++ (residuals b quant (take i buf) cs (drop i (take n buf))).values ≡ take n buf₀ ++ (residuals b quant [] cs₀ (take n buf₀)).values
  pub coefficients : last_or cs (residuals b quant (take i buf) cs (drop i (take n buf))).coefs ≡ last_or cs₀ (residuals b quant [] cs₀ (take n buf₀)).coefs

module _ (b quant n : ℕ) (cs₀ buf₀ : List ℤ) where
  pub leaving_start : Leaving b quant n cs₀ buf₀ 0 cs₀ buf₀
  leaving_start = record { values = rw add-zero; coefficients = refl }

  module _ (i : ℕ) (cs buf : List ℤ) (g : Leaving b quant n cs₀ buf₀ i cs buf) where
    pub leaving_next : i < n → n + i < length buf → (e : ℤ) (cs' : List ℤ)
        → e ≡ residual b quant (take i buf) cs (get_or buf i (pos 0)) → cs' ≡ coefs_after quant (take i (set buf (n + i) e)) cs e
        → Leaving b quant n cs₀ buf₀ (i + 1) cs' (set buf (n + i) e)
    unfolding residuals last_or
    leaving_next h k e cs' p q =
        let adapts : cs' ≡ coefs_after quant (take i buf) cs e = rw (take-set-le i buf (n + i) e (omega arith)) at q in
        let m : n + (i + 1) ≡ suc (n + i) = omega arith in
        let written : take (n + (i + 1)) (set buf (n + i) e) ≡ take (n + i) buf ++ (e ∷ []) = rw (m, take-suc-set buf (n + i) e k) in
        let past : take (i + 1) (set buf (n + i) e) ≡ take i buf ++ (get_or buf i (pos 0) ∷ []) =
        rw (take-set-le (i + 1) buf (n + i) e (omega arith), add-one, take-suc buf i (pos 0) (omega arith)) in
        let rest : drop (i + 1) (take n (set buf (n + i) e)) ≡ drop (suc i) (take n buf) =
        rw (take-set-le n buf (n + i) e (omega arith), add-one) in
        let here : drop i (take n buf) ≡ get_or buf i (pos 0) ∷ drop (suc i) (take n buf) =
        rw (drop-cons (take n buf) i (pos 0) (simp length-take (omega arith)), get_or-take n buf i (pos 0) h) in
        record {
          values = rw (written, past, rest, append_assoc, adapts, p) (rw here at g.values);
          coefficients = rw (past, rest, adapts, p) (rw here at g.coefficients);
        }

    pub leaving_done : n ≤ i → length buf ≡ n + n → Leaves b quant n cs₀ buf₀ cs buf
    unfolding residuals last_or
    leaving_done h k =
        let d : drop i (take n buf) ≡ [] = drop_of_length-le (take n buf) {i = i} (simp length-take (omega arith)) in
        record {
          residuals = rw (d, append-nil, take_all (n + i) buf (omega arith)) at g.values;
          coefficients = rw d at g.coefficients;
        }
