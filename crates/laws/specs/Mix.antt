-- Laws of the mix: unmixing undoes it, and mixed samples have one bit more at most.
use Rattle.std.specs.Prelude.{ℕ, zero, suc, ◌+◌, ◌-◌, ◌*◌, ◌/◌, ◌^◌, ◌≤◌, ◌<◌, ◌≡◌, Bool, length, ℤ, negsuc, neg_ℤ, ◌+ℤ◌, ◌-ℤ◌, ◌*ℤ◌}
use Rattle.std.proofs.Common.{suc-le-suc, ◌∙◌, mul_comm, mul-zero, mul-suc, add-suc, mul-le-mul, mul-le-mul_left, div-lt_iff_lt-mul, pow-suc, arith, lit≤, pow_pos, pow_mono}
use Rattle.std.proofs.Math.Path.{refl, sym, ap, ap₂}
use Rattle.std.proofs.Math.Bool.{true, false}
use mathlib.Core.List.{List, ◌∷◌}
use Rattle.std.proofs.Math.Nat.{zero-div, div-le_of_le-mul}
use Rattle.std.proofs.Math.IntN.{pos, +ℤ_idr, +ℤ-neg_ℤ_cancel}
use Rattle.std.specs.Int.Signed.{mag, nat_abs-le}
use Rattle.rules.specs.Answers.{pick}
use Rattle.rules.specs.Words.{wrap, sub32, shift_right, is_zero}
use Rattle.rules.specs.Buffers.{pairs}
use Rattle.rules.specs.Mix.{share, right_of, left_of, mid_of, on_pair, unmixed, mixed}
use Rattle.laws.specs.Words.{InBits, in_more, Every, none, one, every_map, AllIn, all_in_more, mag_sub, mag_minus, mag_times, difference_added, wrap_id, wrap_in_l, wrap_in_r}

-- ---- unmixing undoes mixing

module _ (mix_bits : ℕ) (mix_res : ℤ) where
  right_again : (l r : ℤ) → InBits 32 r → right_of mix_bits mix_res (mid_of mix_bits mix_res l r) (sub32 l r) ≡ r
  unfolding right_of mid_of
  right_again l r g =
      let s = share mix_bits mix_res (sub32 l r) in
      wrap_in_l 32 32 (r +ℤ s) (neg_ℤ s) (lit≤ tt) ∙ ap (wrap 32) (+ℤ-neg_ℤ_cancel r s) ∙ wrap_id 32 r (lit≤ tt) g

  left_again : (l r : ℤ) → InBits 32 l → InBits 32 r → left_of mix_bits mix_res (mid_of mix_bits mix_res l r) (sub32 l r) ≡ l
  unfolding left_of
  left_again l r f g =
      ap (λ (z : ℤ). wrap 32 (z +ℤ sub32 l r)) (right_again l r g)
      ∙ wrap_in_r 32 32 r (l -ℤ r) (lit≤ tt)
      ∙ ap (wrap 32) (difference_added r l)
      ∙ wrap_id 32 l (lit≤ tt) f

  pair_again : {ls rs : List ℤ} → AllIn 32 ls → AllIn 32 rs → length ls ≡ length rs
      → let us = pairs (mid_of mix_bits mix_res) ls rs in
      let vs = pairs sub32 ls rs in
      (pairs (left_of mix_bits mix_res) us vs ≡ ls) × (pairs (right_of mix_bits mix_res) us vs ≡ rs)
  unfolding pairs
  pair_again none none e = (refl, refl)
  pair_again none (one g gs) e = absurd (omega arith)
  pair_again (one f fs) none e = absurd (omega arith)
  pair_again (one {x = l} f fs) (one {x = r} g gs) e =
      let rest = pair_again fs gs (omega arith) in
      (ap₂ ◌∷◌ (left_again l r f g) rest.0, ap₂ ◌∷◌ (right_again l r g) rest.1)

  on_pair_again : (n : ℕ) {chans : List (List ℤ)} → Every (λ c. length c ≡ n) chans → Every (AllIn 32) chans
      → on_pair (left_of mix_bits mix_res) (right_of mix_bits mix_res) (on_pair (mid_of mix_bits mix_res) sub32 chans) ≡ chans
  unfolding on_pair
  on_pair_again n none none = refl
  on_pair_again n (one k none) (one f none) = refl
  on_pair_again n (one k (one l none)) (one f (one g none)) =
      let again = pair_again f g (k ∙ sym l) in
      rw (again.0, again.1)
  on_pair_again n (one k (one l (one m ks))) (one f (one g (one h fs))) = refl

  again_by : (t : Bool) (n : ℕ) {chans : List (List ℤ)} → Every (λ c. length c ≡ n) chans → Every (AllIn 32) chans
      → let us = pick t chans (on_pair (mid_of mix_bits mix_res) sub32 chans) in
      pick t us (on_pair (left_of mix_bits mix_res) (right_of mix_bits mix_res) us) ≡ chans
  again_by true n long h = refl
  again_by false n long h = on_pair_again n long h

  pub unmixed-mixed : (n : ℕ) {chans : List (List ℤ)} → Every (λ c. length c ≡ n) chans → Every (AllIn 32) chans
      → unmixed mix_bits mix_res (mixed mix_bits mix_res chans) ≡ chans
  unfolding unmixed mixed
  unmixed-mixed n long h = again_by (is_zero mix_res) n long h

-- ---- the ranges

-- between r and r + v lies whatever is between 0 and v
above : (b q a : ℕ) (r : ℤ) → q ≤ a → InBits b r → InBits b (r +ℤ pos a) → InBits b (r +ℤ pos q)
above b q a (pos n) h f g = omega arith
above b q a (negsuc n) h f g = omega (arith, mag_sub q (suc n), mag_sub a (suc n))

below : (b q a : ℕ) (r : ℤ) → q ≤ a → InBits b r → InBits b (r +ℤ negsuc a) → InBits b (r +ℤ negsuc q)
below b q a (pos n) h f g = omega (arith, mag_sub n (suc q), mag_sub n (suc a))
below b q a (negsuc n) h f g = omega arith

-- for mix_res up to 2 ^ mix_bits the share is between 0 and v
between : (b mix_bits mix_res : ℕ) (r v : ℤ) → mix_res ≤ 2 ^ mix_bits → InBits b r → InBits b (r +ℤ v)
    → InBits b (r +ℤ shift_right (v *ℤ pos mix_res) mix_bits)
between b mix_bits mix_res r (pos a) h f g =
    above b (a * mix_res / 2 ^ mix_bits) a r (div-le_of_le-mul (2 ^ mix_bits) (omega (arith, mul-le-mul_left a h, mul_comm a (2 ^ mix_bits)))) f g
between b mix_bits zero r (negsuc a) h f g = rw (mul-zero, zero-div, +ℤ_idr) f
between b mix_bits (suc m) r (negsuc a) h f g =
    let e : suc a * suc m ≡ suc (suc a * m + a) = mul-suc (suc a) m ∙ add-suc (suc a * m) a in
    let k : (suc a * m + a) / 2 ^ mix_bits < suc a = (div-lt_iff_lt-mul (pow_pos mix_bits)).1 (omega (arith, mul-le-mul_left (suc a) h)) in
    rw e (below b ((suc a * m + a) / 2 ^ mix_bits) a r (omega arith) f g)

module _ (d mix_bits mix_res : ℕ) (h : 1 ≤ d) (k : d ≤ 24) (few : mix_res ≤ 127) (low : mix_res ≤ 2 ^ mix_bits) where
  module _ (l r : ℤ) (f : InBits d l) (g : InBits d r) where
    difference_in : InBits (suc d) (l -ℤ r)
    difference_in =
        let e : suc (d - 1) ≡ d = omega arith in
        let even : 2 ^ d ≡ 2 ^ (d - 1) * 2 = rw e at (pow-suc 2 (d - 1)) in
        let m : mag l < 2 ^ (d - 1) = omega arith in
        let n : mag r < 2 ^ (d - 1) = omega arith in
        omega (arith, mag_minus l r, pow-suc 2 d)

    -- nothing wraps
    side_is : sub32 l r ≡ l -ℤ r
    side_is = wrap_id 32 (l -ℤ r) (lit≤ tt) (in_more (suc d) 32 (l -ℤ r) (omega arith) difference_in)

    side_in : InBits (suc d) (sub32 l r)
    side_in = rw side_is difference_in

    product_in : InBits 32 ((l -ℤ r) *ℤ pos mix_res)
    product_in =
        let a : mag (l -ℤ r) < 16777216 = omega (arith, difference_in, pow_mono {i = suc d} {j = 25} (suc-le-suc k)) in
        omega (arith, mag_times (l -ℤ r) (pos mix_res), mul-le-mul (nat_abs-le (l -ℤ r) a) few)

    share_is : share mix_bits (pos mix_res) (sub32 l r) ≡ shift_right ((l -ℤ r) *ℤ pos mix_res) mix_bits
    unfolding share
    share_is = rw (side_is, wrap_id 32 ((l -ℤ r) *ℤ pos mix_res) (lit≤ tt) product_in)

    -- between the two
    mid_in : InBits d (mid_of mix_bits (pos mix_res) l r)
    unfolding mid_of
    mid_in =
        let s = shift_right ((l -ℤ r) *ℤ pos mix_res) mix_bits in
        let i : InBits d (r +ℤ s) = between d mix_bits mix_res r (l -ℤ r) low g (rw (difference_added r l) f) in
        rw (share_is, wrap_id 32 (r +ℤ s) (lit≤ tt) (in_more d 32 (r +ℤ s) (omega arith) i)) i

  pairs_in : {ls rs : List ℤ} → AllIn d ls → AllIn d rs
      → AllIn d (pairs (mid_of mix_bits (pos mix_res)) ls rs) × AllIn (suc d) (pairs sub32 ls rs)
  unfolding pairs
  pairs_in none rs = (none, none)
  pairs_in (one f fs) none = (none, none)
  pairs_in (one {x = l} f fs) (one {x = r} g gs) =
      let rest = pairs_in fs gs in
      (one (mid_in l r f g) rest.0, one (side_in l r f g) rest.1)

  as_they_are : {chans : List (List ℤ)} → Every (AllIn d) chans → Every (AllIn (d + length chans - 1)) chans
  as_they_are none = none
  as_they_are (one {xs = more} f fs) = every_map (λ c. all_in_more d (d + suc (length more) - 1) (omega arith)) (one f fs)

  mixed_by : (t : Bool) {chans : List (List ℤ)} → Every (AllIn d) chans
      → Every (AllIn (d + length chans - 1)) (pick t chans (on_pair (mid_of mix_bits (pos mix_res)) sub32 chans))
  unfolding on_pair
  mixed_by true fs = as_they_are fs
  mixed_by false none = none
  mixed_by false (one f none) = as_they_are (one f none)
  mixed_by false (one f (one g none)) =
      let p = pairs_in f g in
      one (all_in_more d (d + 2 - 1) (omega arith) p.0) (one (all_in_more (suc d) (d + 2 - 1) (omega arith) p.1) none)
  mixed_by false (one f (one g (one i fs))) = as_they_are (one f (one g (one i fs)))

  -- b = depth + channels - 1 is enough
  pub mixed_in : {chans : List (List ℤ)} → Every (AllIn d) chans → Every (AllIn (d + length chans - 1)) (mixed mix_bits (pos mix_res) chans)
  unfolding mixed
  mixed_in fs = mixed_by (is_zero (pos mix_res)) fs
