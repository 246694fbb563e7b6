-- How channels lie in scratch: those that were laid are there, the last ones laid win, later places stay; and parts of scratch that come back from a loan.
use Prim.Native.Nat.{ℕ, zero, suc, ◌+◌, ◌-◌, ◌*◌, ◌≤◌}
use mathlib.Core.Path.{◌≡◌, refl, sym, ap, ◌∙◌}
use mathlib.Core.List.{List, [], ◌∷◌, ◌++◌, append_assoc}
use native.Mathlib.Nat.{suc-mul, mul-le-mul_right}
use native.Mathlib.Omega.{arith}
use lib.ListN.{length, take, drop, length-append, length-drop, take-append-drop}
use lib.Seq.{length-take-le, drop-append-le, take_at, drop_at, drop-drop, take-take}
use lib.IntN.{ℤ}
use borrow.Rule.Slice.PartMut.{put_mid}
use Rattle.rules.specs.Buffers.{laid}
use Rattle.laws.specs.Words.{Every, none, one}
use Rattle.laws.specs.Buffers.{laid-length, laid-all, laid-laid}
use Rattle.laws.specs.Shape.{Formed}
use Rattle.buffers.specs.Halves.{parts, with_parts}

-- ---- channels in scratch

module _ (half : ℕ) where
  -- one channel or two have their halves in scratch of two frames
  pub halves_fit : (w len : ℕ) → w ≤ 2 → 2 * half ≤ len → w * half ≤ len
  halves_fit w len two room = omega (arith, mul-le-mul_right half two)

  pub parts_count : (n w : ℕ) (scr : List ℤ) → length (parts half n w scr) ≡ w
  unfolding parts
  parts_count n zero scr = refl
  parts_count n (suc w) scr = ap suc (parts_count n w (drop half scr))

  pub with_length : (chans : List (List ℤ)) (scr : List ℤ) → length (with_parts half chans scr) ≡ length scr
  unfolding with_parts
  with_length [] scr = refl
  with_length (xs ∷ chans) scr =
      rw (length-append, laid-length, with_length chans (drop half scr)) (sym (length-append (take half scr) (drop half scr)) ∙ ap length (take-append-drop half scr))

  module _ (xs : List ℤ) (chans : List (List ℤ)) (scr : List ℤ) (h : half ≤ length scr) where
    length-first : length (laid xs (take half scr)) ≡ half
    length-first = laid-length xs (take half scr) ∙ length-take-le half scr h

    with_take : take half (with_parts half (xs ∷ chans) scr) ≡ laid xs (take half scr)
    unfolding with_parts
    with_take = take_at (laid xs (take half scr)) (with_parts half chans (drop half scr)) half length-first

    with_drop : drop half (with_parts half (xs ∷ chans) scr) ≡ with_parts half chans (drop half scr)
    unfolding with_parts
    with_drop = drop_at (laid xs (take half scr)) (with_parts half chans (drop half scr)) half length-first

  -- a half less
  less : (w : ℕ) (scr : List ℤ) → suc w * half ≤ length scr → (half ≤ length scr) × (w * half ≤ length (drop half scr))
  less w scr h = (omega (arith, suc-mul w half), rw length-drop (omega (arith, suc-mul w half)))

  pub with_rest : (w : ℕ) (chans : List (List ℤ)) (scr : List ℤ) → length chans ≤ w → w * half ≤ length scr
      → drop (w * half) (with_parts half chans scr) ≡ drop (w * half) scr
  unfolding with_parts
  with_rest w [] scr h k = refl
  with_rest zero (xs ∷ chans) scr h k = absurd (omega arith)
  with_rest (suc w) (xs ∷ chans) scr h k =
      let l = less w scr k in
      let e : suc w * half ≡ half + w * half = omega (arith, suc-mul w half) in
      rw (e, ← drop-drop (w * half) half scr, ← drop-drop (w * half) half (with_parts half (xs ∷ chans) scr))
      (ap (drop (w * half)) (with_drop xs chans scr l.0) ∙ with_rest w chans (drop half scr) (omega arith) l.1)

  module _ (n : ℕ) (short : n ≤ half) where
    module _ (xs : List ℤ) (scr : List ℤ) (e : length xs ≡ n) (h : half ≤ length scr) where
      in_half : length xs ≤ length (take half scr)
      in_half = rw (length-take-le half scr h, e) short

      take_with : (chans : List (List ℤ)) → take n (with_parts half (xs ∷ chans) scr) ≡ xs
      take_with chans =
          sym (take-take n half (with_parts half (xs ∷ chans) scr) short)
          ∙ rw (with_take xs chans scr h, laid-all xs (take half scr) in_half) (take_at xs (drop (length xs) (take half scr)) n e)

    pub parts_with : {chans : List (List ℤ)} (scr : List ℤ) → Every (λ c. length c ≡ n) chans → length chans * half ≤ length scr
        → parts half n (length chans) (with_parts half chans scr) ≡ chans
    unfolding parts
    parts_with scr none h = refl
    parts_with scr (one {x = xs} {xs = chans} e es) h =
        let l = less (length chans) scr h in
        rw (take_with xs scr e l.0 chans, with_drop xs chans scr l.0, parts_with (drop half scr) es l.1)

    pub parts_formed : (w : ℕ) (scr : List ℤ) → w * half ≤ length scr → Formed w n (parts half n w scr)
    unfolding parts
    parts_formed zero scr h = record { count = refl; long = none }
    parts_formed (suc w) scr h =
        let l = less w scr h in
        let f = parts_formed w (drop half scr) l.1 in
        record { count = ap suc f.count; long = one (length-take-le n scr (omega (arith, l.0))) f.long }

    -- laid where they lie
    pub with_parts-same : (w : ℕ) (scr : List ℤ) → w * half ≤ length scr → with_parts half (parts half n w scr) scr ≡ scr
    unfolding parts with_parts
    with_parts-same zero scr h = refl
    with_parts-same (suc w) scr h =
        let l = less w scr h in
        let e : length (take n scr) ≡ n = length-take-le n scr (omega (arith, l.0)) in
        rw (
          laid-all (take n scr) (take half scr) (in_half (take n scr) scr e l.0),
          e,
          ← take-take n half scr short,
          take-append-drop n (take half scr),
          with_parts-same w (drop half scr) l.1,
          take-append-drop half scr,
        )

    -- laid again over the same places: the last wins
    pub with_with : {chans more : List (List ℤ)} (scr : List ℤ) → Every (λ c. length c ≡ n) chans → Every (λ c. length c ≡ n) more
        → length chans ≤ length more → length more * half ≤ length scr
        → with_parts half more (with_parts half chans scr) ≡ with_parts half more scr
    unfolding with_parts
    with_with scr none ds h k = refl
    with_with scr (one e es) none h k = absurd (omega arith)
    with_with scr (one {x = xs} {xs = chans} e es) (one {x = ys} {xs = more} d ds) h k =
        let l = less (length more) scr k in
        rw (
          with_take xs chans scr l.0,
          with_drop xs chans scr l.0,
          with_with (drop half scr) es ds (omega arith) l.1,
          laid-laid xs ys (take half scr) (omega arith) (in_half ys scr d l.0),
        )

    -- ---- parts that come back from a loan

    pub with_first : (ys scr : List ℤ) → length ys ≡ n → half ≤ length scr → ys ++ drop n scr ≡ with_parts half (ys ∷ []) scr
    unfolding with_parts
    with_first ys scr e h =
        let l = in_half ys scr e h in
        rw (laid-all ys (take half scr) l, append_assoc, ← drop-append-le (length ys) (take half scr) (drop half scr) l, take-append-drop, e)

    -- after the first channel, whether the second was there or not
    pub with_second : (us vs : List ℤ) {more : List (List ℤ)} (scr : List ℤ) → length us ≡ n → length vs ≡ n
        → Every (λ c. length c ≡ n) more → length more ≤ 1 → 2 * half ≤ length scr
        → put_mid half (half + n - half) (with_parts half (us ∷ more) scr) vs ≡ with_parts half (us ∷ vs ∷ []) scr
    unfolding with_parts
    with_second us vs {more} scr e f es g h =
        let l = less 1 scr h in
        let k : half + n - half ≡ n = omega arith in
        rw (
          with_take us more scr l.0,
          with_drop us more scr l.0,
          k,
          with_first vs (with_parts half more (drop half scr)) f (rw with_length (omega arith)),
          with_with (drop half scr) es (one {x = vs} f none) g l.1,
        )
