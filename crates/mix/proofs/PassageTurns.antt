-- The loops over a passage, which the writer mixes: what is in the first places, with what the rules make of the rest, is the whole.
use Prim.Native.Nat.{ℕ, zero, suc, ◌+◌, ◌-◌, ◌*◌, ◌≤◌, ◌<◌}
use mathlib.Core.Path.{◌≡◌, refl, ◌∙◌}
use mathlib.Core.List.{List, [], ◌∷◌, ◌++◌, append-nil}
use native.Mathlib.Nat.{zero-mul, zero-add, add-zero, suc-mul, mul-le-mul_right}
use native.Mathlib.Numerals.{add-one}
use native.Mathlib.Omega.{arith}
use lib.ListN.{length, get_or, take, drop, set, length-set, drop_of_length-le}
use lib.Seq.{take_all, drop-cons, drop-drop, append_snoc, take-suc-set}
use lib.IntN.{ℤ, pos}
use Rattle.rules.specs.Buffers.{every, lane, lanes, up_to, pairs}
use Rattle.rules.specs.Words.{sub32}
use Rattle.rules.specs.Mix.{mid_of, on_pair}
use Rattle.mix.specs.Mixable.{mixed_sample}

-- ---- one place a turn

-- the first i places are done, and `rest i` is what belongs in the others
pub record Filling (whole : List ℤ) (rest : ℕ → List ℤ) (was is : List ℤ) (i : ℕ) : Type 0 where
  pub same : length is ≡ length was
  pub goes : take i is ++ rest i ≡ whole

module _ {whole : List ℤ} {rest : ℕ → List ℤ} {was : List ℤ} where
  pub filling_start : rest 0 ≡ whole → Filling whole rest was was 0
  filling_start e = record { same = refl; goes = e }

  module _ {is : List ℤ} {i : ℕ} (g : Filling whole rest was is i) where
    pub filling_next : {x y : ℤ} → i < length was → rest i ≡ x ∷ rest (i + 1) → y ≡ x → Filling whole rest was (set is i y) (i + 1)
    filling_next {y = y} h e d =
        let l : i < length is = omega (arith, g.same) in
        record {
          same = length-set is i y ∙ g.same;
          goes = rw (add-one, take-suc-set is i y l, d, append_snoc) (rw (e, add-one) at g.goes);
        }

    pub filling_done : length was ≤ i → rest i ≡ [] → is ≡ whole
    filling_done h e = rw (e, append-nil, take_all i is (omega (arith, g.same))) at g.goes

-- ---- a lane, sample by sample

module _ {A : Type 0} (gap : ℕ) where
  every-from : (wait : ℕ) (xs : List A) → every gap wait xs ≡ every gap 0 (drop wait xs)
  unfolding every
  every-from zero xs = refl
  every-from (suc wait) [] = refl
  every-from (suc wait) (x ∷ xs) = every-from wait xs

module _ (c j : ℕ) (xs : List ℤ) where
  -- channel j of c from its sample i on
  abbrev pub lane_from : ℕ → List ℤ
  lane_from i = every (c - 1) 0 (drop (i * c + j) xs)

  pub lane-start : lane_from 0 ≡ lane c xs j
  lane-start = rw (zero-mul, zero-add, every-from (c - 1) j xs)

  module _ (n i : ℕ) (there : j < c) (rows : length xs ≡ n * c) where
    pub lane_inside : i < n → i * c + j < length xs
    lane_inside h = omega (arith, rows, suc-mul i c, mul-le-mul_right {m = suc i} {n = n} c h)

    pub lane-next : i < n → lane_from i ≡ get_or xs (i * c + j) (pos 0) ∷ lane_from (i + 1)
    unfolding every
    lane-next h =
        let k : suc (i * c + j) + (c - 1) ≡ suc i * c + j = omega (arith, suc-mul i c) in
        rw (drop-cons xs (i * c + j) (pos 0) (lane_inside h), every-from (c - 1) (c - 1) (drop (suc (i * c + j)) xs), drop-drop, k, add-one)

    pub lane_end : n ≤ i → lane_from i ≡ []
    unfolding every
    lane_end h = rw (drop_of_length-le xs {i = i * c + j} (omega (arith, rows, mul-le-mul_right {m = n} {n = i} c h)))

-- ---- a mixed pair, sample by sample

module _ (mix_bits : ℕ) (mix_res : ℤ) (which : ℕ) (xs : List ℤ) where
  -- channel `which` of the mixed pair from its sample i on
  abbrev pub mixed_from : ℕ → List ℤ
  mixed_from i = pairs (mixed_sample mix_bits mix_res which) (lane_from 2 0 xs i) (lane_from 2 1 xs i)

  abbrev pub mixed_lane : List ℤ
  mixed_lane = get_or (on_pair (mid_of mix_bits mix_res) sub32 (lanes 2 xs)) which []

  module _ (n i : ℕ) (rows : length xs ≡ n * 2) where
    pub mixed-next : i < n → mixed_from i ≡ mixed_sample mix_bits mix_res which (get_or xs (i * 2) (pos 0)) (get_or xs (i * 2 + 1) (pos 0)) ∷ mixed_from (i + 1)
    unfolding pairs
    mixed-next h = rw (lane-next 2 0 xs n i (omega arith) rows h, lane-next 2 1 xs n i (omega arith) rows h, add-zero (i * 2))

    pub mixed_end : n ≤ i → mixed_from i ≡ []
    unfolding pairs
    mixed_end h = rw (lane_end 2 0 xs n i (omega arith) rows h)

pub mixed-start : (mix_bits : ℕ) (mix_res : ℤ) (which : ℕ) (xs : List ℤ) → which < 2 → mixed_from mix_bits mix_res which xs 0 ≡ mixed_lane mix_bits mix_res which xs
unfolding on_pair up_to mixed_sample
mixed-start mix_bits mix_res zero xs h = rw (lane-start 2 1 xs)
mixed-start mix_bits mix_res (suc zero) xs h = rw (lane-start 2 1 xs)
mixed-start mix_bits mix_res (suc (suc which)) xs h = absurd (omega arith)
