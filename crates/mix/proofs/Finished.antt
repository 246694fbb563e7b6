-- Channels in scratch that are unmixed and take in their extra bits, and those that stay as they are.
use Prim.Native.Nat.{ℕ, zero, suc, ◌-◌, ◌*◌, ◌^◌, ◌≤◌}
use mathlib.Core.Path.{◌≡◌, refl}
use mathlib.Core.Bool.{Bool, true, false}
use mathlib.Core.List.{List, [], ◌∷◌}
use native.Mathlib.Omega.{arith}
use borrow.Author.Tests.{ne_eqb}
use lib.Dec.{ltb}
use lib.ListN.{length, take}
use lib.IntN.{ℤ, pos, negsuc}
use Rattle.rules.specs.Answers.{pick}
use Rattle.rules.specs.Words.{is_zero, signed}
use Rattle.rules.specs.Buffers.{lanes, pairs}
use Rattle.rules.specs.Mix.{left_of, right_of, on_pair, unmixed}
use Rattle.rules.specs.Element.{extended, with_extra}
use Rattle.laws.specs.Shape.{Formed, unmixed_formed, extra_formed}
use Rattle.buffers.specs.Halves.{parts, with_parts}
use Rattle.buffers.proofs.Halves.{halves_fit, parts_formed, parts_with, with_parts-same, with_with}
use Rattle.buffers.specs.Fills.{Roomy}

-- ---- the rules' cases

unmixed_single : (mix_bits : ℕ) (mix_res : ℤ) (xs : List ℤ) → unmixed mix_bits mix_res (xs ∷ []) ≡ xs ∷ []
unfolding unmixed on_pair
unmixed_single mix_bits mix_res xs = by (is_zero mix_res)
  where
    by : (t : Bool) → pick t (xs ∷ []) (xs ∷ []) ≡ xs ∷ []
    by true = refl
    by false = refl

signed_nonzero : (b v : ℕ) → (v ≡ 0 → ⊥) → is_zero (signed b v) ≡ false
unfolding signed
signed_nonzero b zero h = absurd (h refl)
signed_nonzero b (suc v) h = by (ltb (2 * suc v) (2 ^ b))
  where
    by : (t : Bool) → is_zero (pick t (pos (suc v)) (negsuc (2 ^ b - suc (suc v)))) ≡ false
    by true = refl
    by false = refl

pub unmixed_pair : (mix_bits v : ℕ) (z : ℤ) (chans : List (List ℤ)) → (v ≡ 0 → ⊥) → z ≡ signed 8 v
    → on_pair (left_of mix_bits z) (right_of mix_bits z) chans ≡ unmixed mix_bits (signed 8 v) chans
unfolding unmixed
unmixed_pair mix_bits v z chans h e = rw (e, signed_nonzero 8 v h)

pub extra_some : (w shift : ℕ) (extra : List ℕ) (chans : List (List ℤ)) → (shift ≡ 0 → ⊥)
    → pairs (pairs (extended shift)) chans (lanes w extra) ≡ with_extra w shift extra chans
unfolding with_extra
extra_some w shift extra chans h = rw (ne_eqb shift 0 h)

-- ---- in scratch

module _ (half n : ℕ) where
  within : (w : ℕ) (scr : List ℤ) → Roomy half n w scr → w * half ≤ length scr
  within w scr r = halves_fit half w (length scr) r.two r.room

  module _ (w : ℕ) (scr : List ℤ) (r : Roomy half n w scr) where
    abbrev same : with_parts half (parts half n w scr) scr ≡ scr
    same = with_parts-same half n r.short w scr (within w scr r)

    pub one_stays : (mix_bits : ℕ) (mix_res : ℤ) → w ≡ 1 → with_parts half (unmixed mix_bits mix_res (parts half n w scr)) scr ≡ scr
    unfolding parts
    one_stays mix_bits mix_res e =
        let u : unmixed mix_bits mix_res (parts half n w scr) ≡ parts half n w scr = rw e (unmixed_single mix_bits mix_res (take n scr)) in
        rw u same

    pub unmixed_stays : (mix_bits v : ℕ) → v ≡ 0 → with_parts half (unmixed mix_bits (signed 8 v) (parts half n w scr)) scr ≡ scr
    unfolding unmixed signed
    unmixed_stays mix_bits v e = rw e same

    pub extra_stays : (shift : ℕ) (extra : List ℕ) → shift ≡ 0 → with_parts half (with_extra w shift extra (parts half n w scr)) scr ≡ scr
    unfolding with_extra
    extra_stays shift extra e = rw e same

    -- channels laid, found there and changed
    again : (f : List (List ℤ) → List (List ℤ)) (chans : List (List ℤ)) → Formed w n chans → Formed w n (f chans)
        → with_parts half (f (parts half n w (with_parts half chans scr))) (with_parts half chans scr) ≡ with_parts half (f chans) scr
    again f chans a b =
        let l : length chans * half ≤ length scr = rw a.count (within w scr r) in
        let m : length (f chans) * half ≤ length scr = rw b.count (within w scr r) in
        let p : parts half n w (with_parts half chans scr) ≡ chans = rw (← a.count) (parts_with half n r.short scr a.long l) in
        rw p (with_with half n r.short scr a.long b.long (omega (arith, a.count, b.count)) m)

    -- unmixed first, then the extra bits
    pub both : (mid : List ℤ) (mix_bits : ℕ) (mix_res : ℤ) (shift : ℕ) (extra : List ℕ) → length extra ≡ n * w
        → mid ≡ with_parts half (unmixed mix_bits mix_res (parts half n w scr)) scr
        → with_parts half (with_extra w shift extra (parts half n w mid)) mid ≡ with_parts half (with_extra w shift extra (unmixed mix_bits mix_res (parts half n w scr))) scr
    both mid mix_bits mix_res shift extra l e =
        let u = unmixed_formed mix_bits mix_res (parts half n w scr) (parts_formed half n r.short w scr (within w scr r)) in
        rw e (again (with_extra w shift extra) (unmixed mix_bits mix_res (parts half n w scr)) u (extra_formed w shift n extra _ r.some l u))
