-- One step of each rule at a place of its lists, and its end: what a turn of a loop needs.
use Prim.Native.Nat.{ℕ, zero, suc, ◌+◌, ◌-◌, ◌≤◌, ◌<◌, zero-le, suc-le-suc}
use mathlib.Core.Path.{◌≡◌, refl}
use mathlib.Core.Bool.{true, false}
use mathlib.Core.List.{List, [], ◌∷◌, ◌++◌, append_assoc, append-nil}
use native.Mathlib.Numerals.{add-one}
use native.Mathlib.Nat.{lt-suc_self, add-sub_cancel, sub-zero, suc-sub-suc, not-suc-le-zero, le_of_suc-le-suc, le_of_lt}
use native.Mathlib.Omega.{arith}
use borrow.Author.Tests.{ne_eqb, le-leb, lt-leb}
use lib.ListN.{length, drop, take, get_or, set, drop_of_length-le}
use lib.Seq.{take-nil, length-take-le, get_or-take, get_or-set_same, take_all, drop-cons, take-suc-set, drop-set-lt, set_split}
use lib.IntN.{ℤ, pos, ◌+ℤ◌}
use lib.Signed.{le_z}
use Rattle.rules.specs.Words.{wrap, add32, sub32, mul32, sign, is_zero}
use Rattle.rules.specs.Prediction.{weighed, guess, error_left, adapted, mean_of, window, forecast, next, coefs_after, predicted, summed_from, summed}
use Rattle.lpc.specs.Predicts.{last_or, Predicts}

-- ---- the weighed sum

pub weighed_on : (mean sum : ℤ) (xs cs : List ℤ) (j : ℕ) → j < length xs → j < length cs
    → weighed mean sum (drop j xs) (drop j cs)
    ≡ weighed mean (add32 sum (mul32 (sub32 (get_or xs j (pos 0)) mean) (get_or cs j (pos 0)))) (drop (j + 1) xs) (drop (j + 1) cs)
unfolding weighed
weighed_on mean sum xs cs j h k = rw (drop-cons xs j (pos 0) h, drop-cons cs j (pos 0) k, add-one)

pub weighed_end : (mean sum : ℤ) (xs cs : List ℤ) (j : ℕ) → length xs ≤ j → weighed mean sum (drop j xs) (drop j cs) ≡ sum
unfolding weighed
weighed_end mean sum xs cs j h = rw (drop_of_length-le xs h)

-- ---- adaptation

-- what the coefficient of a sample x gains, the running error after that, and c_j after it
abbrev pub gain : ℤ → ℤ → ℤ → ℤ
gain mean s x = mul32 (sign (sub32 x mean)) s

abbrev pub left : ℕ → ℤ → ℤ → ℕ → ℤ → ℤ → ℤ
left quant mean s j error x = error_left quant s j error (sub32 x mean) (gain mean s x)

abbrev pub moved : ℤ → ℤ → List ℤ → List ℤ → ℕ → ℤ
moved mean s xs cs j = wrap 16 (get_or cs j (pos 0) +ℤ gain mean s (get_or xs j (pos 0)))

module _ (quant : ℕ) (mean s : ℤ) (j : ℕ) (error : ℤ) (xs cs : List ℤ) (h : j < length xs) (k : j < length cs) where
  pub adapted_stop : le_z (left quant mean s j error (get_or xs j (pos 0))) (pos 0) ≡ true
      → take j cs ++ adapted quant mean s j error (drop j xs) (drop j cs) ≡ set cs j (moved mean s xs cs j)
  unfolding adapted
  adapted_stop e = rw (set_split cs j (moved mean s xs cs j) k, drop-cons xs j (pos 0) h, drop-cons cs j (pos 0) k, e)

  pub adapted_on : le_z (left quant mean s j error (get_or xs j (pos 0))) (pos 0) ≡ false
      → take j cs ++ adapted quant mean s j error (drop j xs) (drop j cs)
      ≡ take (j + 1) (set cs j (moved mean s xs cs j))
      ++ adapted quant mean s (j + 1) (left quant mean s j error (get_or xs j (pos 0))) (drop (j + 1) xs) (drop (j + 1) (set cs j (moved mean s xs cs j)))
  unfolding adapted
  adapted_on e =
      let c = moved mean s xs cs j in
      rw (drop-cons xs j (pos 0) h, drop-cons cs j (pos 0) k, e, add-one, take-suc-set cs j c k, drop-set-lt (suc j) cs j c (lt-suc_self j), append_assoc)

pub adapted_end : (quant : ℕ) (mean s : ℤ) (j : ℕ) (error : ℤ) (xs cs : List ℤ) → length xs ≤ j → length cs ≤ j
    → take j cs ++ adapted quant mean s j error (drop j xs) (drop j cs) ≡ cs
unfolding adapted
adapted_end quant mean s j error xs cs h k = rw (drop_of_length-le xs h, drop_of_length-le cs k, append-nil) (take_all j cs k)

-- ---- a sample, and the coefficients after it, where what is past is the front of a buffer

part_is : (a i : ℕ) (l : List ℤ) → a ≤ i → take (i - a) (drop a l) ≡ drop a (take i l)
part_is zero i l h = rw sub-zero
part_is (suc a) zero l h = absurd (not-suc-le-zero h)
part_is (suc a) (suc i) [] h = take-nil (suc i - suc a)
part_is (suc a) (suc i) (x ∷ l) h = rw suc-sub-suc (part_is a i l (le_of_suc-le-suc h))

-- the mean and the window as the code takes them
abbrev pub mean_at : ℕ → List ℤ → List ℤ → ℤ
mean_at i buf cs = get_or buf (i - length cs - 1) (pos 0)

abbrev pub window_at : ℕ → List ℤ → List ℤ → List ℤ
window_at i buf cs = take (i - (i - length cs)) (drop (i - length cs) buf)

module _ (quant i : ℕ) (buf cs : List ℤ) (h : i < length buf) where
  past_length : length (take i buf) ≡ i
  past_length = length-take-le i buf (le_of_lt h)

  mean_is : length cs < i → mean_of (take i buf) cs ≡ mean_at i buf cs
  unfolding mean_of
  mean_is k =
      let p : i - length cs - 1 < i = omega arith in
      rw (past_length, get_or-take i buf (i - length cs - 1) (pos 0) p)

  window_is : length cs < i → window (take i buf) cs ≡ window_at i buf cs
  unfolding window
  window_is k =
      let p : i - length cs ≤ i = omega arith in
      rw (past_length, part_is (i - length cs) i buf p)

  pub forecast_early : i ≤ length cs → 1 ≤ i → forecast quant (take i buf) cs ≡ get_or buf (i - 1) (pos 0)
  unfolding forecast
  forecast_early k n =
      let p : i - 1 < i = omega arith in
      rw (past_length, le-leb i (length cs) k, get_or-take i buf (i - 1) (pos 0) p)

  pub forecast_late : length cs < i → forecast quant (take i buf) cs ≡ add32 (guess quant (mean_at i buf cs) (window_at i buf cs) cs) (mean_at i buf cs)
  unfolding forecast
  forecast_late k = rw (past_length, lt-leb i (length cs) k, mean_is k, window_is k)

  pub next-later : (b : ℕ) (e : ℤ) → 1 ≤ i → next b quant (take i buf) cs e ≡ wrap b (add32 (forecast quant (take i buf) cs) e)
  unfolding next
  next-later b e n =
      let p : i ≡ 0 → ⊥ = λ z. omega arith in
      rw (past_length, ne_eqb i 0 p)

  module _ (e : ℤ) where
    pub coefs_early : i ≤ length cs → coefs_after quant (take i buf) cs e ≡ cs
    unfolding coefs_after
    coefs_early k = rw (past_length, le-leb i (length cs) k)

    pub coefs_exact : length cs < i → is_zero e ≡ true → coefs_after quant (take i buf) cs e ≡ cs
    unfolding coefs_after
    coefs_exact k z = rw (past_length, lt-leb i (length cs) k, z)

    pub coefs_late : length cs < i → is_zero e ≡ false
        → coefs_after quant (take i buf) cs e ≡ adapted quant (mean_at i buf cs) (sign e) 0 (mul32 (sign e) e) (window_at i buf cs) cs
    unfolding coefs_after
    coefs_late k z = rw (past_length, lt-leb i (length cs) k, z, mean_is k, window_is k)

-- ---- all samples

-- the samples so far and those that follow are the whole, and the coefficients end as they do from the start
pub record Going (b quant : ℕ) (cs₀ buf₀ : List ℤ) (i : ℕ) (cs buf : List ℤ) : Type 0 where
  pub samples : take i buf ++ (predicted b quant (take i buf) cs (drop i buf)).values ≡ (predicted b quant [] cs₀ buf₀).values
  pub coefficients : last_or cs (predicted b quant (take i buf) cs (drop i buf)).coefs ≡ last_or cs₀ (predicted b quant [] cs₀ buf₀).coefs

module _ (b quant : ℕ) (cs₀ : List ℤ) where
  pub going_start : (buf : List ℤ) → Going b quant cs₀ buf 1 cs₀ buf
  unfolding predicted last_or next
  going_start [] = record { samples = refl; coefficients = refl }
  going_start (e ∷ es) =
      let k : coefs_after quant [] cs₀ e ≡ cs₀ = coefs_early quant 0 (e ∷ es) cs₀ (suc-le-suc zero-le) e zero-le in
      record { samples = rw k; coefficients = rw k }

  module _ (buf₀ : List ℤ) (i : ℕ) (cs buf : List ℤ) (g : Going b quant cs₀ buf₀ i cs buf) where
    pub going_next : i < length buf → (x : ℤ) (cs' : List ℤ)
        → x ≡ next b quant (take i buf) cs (get_or buf i (pos 0)) → cs' ≡ coefs_after quant (take i buf) cs (get_or buf i (pos 0))
        → Going b quant cs₀ buf₀ (i + 1) cs' (set buf i x)
    unfolding predicted last_or
    going_next h x cs' p q =
        let d : drop (i + 1) (set buf i x) ≡ drop (suc i) buf = rw (add-one, drop-set-lt (suc i) buf i x (lt-suc_self i)) in
        let t : take (i + 1) (set buf i x) ≡ take i buf ++ (x ∷ []) = rw (add-one, take-suc-set buf i x h) in
        record {
          samples = rw (d, t, append_assoc, p, q) (rw (drop-cons buf i (pos 0) h) at g.samples);
          coefficients = rw (d, t, p, q) (rw (drop-cons buf i (pos 0) h) at g.coefficients);
        }

    pub going_done : length buf ≤ i → Predicts b quant cs₀ buf₀ cs buf
    unfolding predicted last_or
    going_done h =
        let d : drop i buf ≡ [] = drop_of_length-le buf h in
        record {
          samples = rw (d, append-nil, take_all i buf h) at g.samples;
          coefficients = rw d at g.coefficients;
        }

-- ---- the sums of mode 15

pub summed-start : (b : ℕ) (l : List ℤ) → take 1 l ++ summed_from b (get_or l (1 - 1) (pos 0)) (drop 1 l) ≡ summed b l
unfolding summed summed_from
summed-start b [] = refl
summed-start b (x ∷ xs) = refl

pub summed_on : (b i : ℕ) (l : List ℤ) (s : ℤ) → i < length l → s ≡ wrap b (add32 (get_or l (i - 1) (pos 0)) (get_or l i (pos 0)))
    → take (i + 1) (set l i s) ++ summed_from b (get_or (set l i s) (i + 1 - 1) (pos 0)) (drop (i + 1) (set l i s))
    ≡ take i l ++ summed_from b (get_or l (i - 1) (pos 0)) (drop i l)
unfolding summed_from
summed_on b i l s h e =
    rw (add-sub_cancel, get_or-set_same l i s (pos 0) h, add-one, take-suc-set l i s h, drop-set-lt (suc i) l i s (lt-suc_self i), drop-cons l i (pos 0) h, e, append_assoc)

pub summed_end : (b i : ℕ) (l : List ℤ) (z : ℤ) → length l ≤ i → take i l ++ summed_from b z (drop i l) ≡ l
unfolding summed_from
summed_end b i l z h = rw (drop_of_length-le l h, append-nil) (take_all i l h)
