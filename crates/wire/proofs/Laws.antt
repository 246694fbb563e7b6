-- The loops over samples and bytes.
use Prim.Native.Nat.{ℕ, suc, ◌+◌, ◌*◌, ◌/◌, ◌%◌, ◌^◌, ◌≤◌, ◌<◌}
use mathlib.Core.Path.{◌≡◌, refl, sym, ap, ◌∙◌}
use mathlib.Core.List.{List, ◌∷◌, ◌++◌, append-nil, append_assoc}
use native.Mathlib.Numerals.{add-one}
use native.Mathlib.Omega.{arith}
use lib.ListN.{length, get_or, take, drop, set, length-set, drop_of_length-le}
use lib.Seq.{drop-cons, take-suc-set, take_all}
use lib.IntN.{ℤ, pos}
use mir.Syntax.{w8, w16}
use mir.Val.{Fits, to_z}
use Rattle.words.proofs.Laws.{number_is}
use Rattle.rules.specs.Words.{mod_z, signed}
use Rattle.laws.specs.Words.{mod_z_lt}
use Rattle.wire.specs.Raw.{samples_of, bytes_of}

-- ---- bytes to samples

two_on : (i : ℕ) → 2 * (i + 1) ≡ suc (suc (2 * i))
two_on i = omega arith

module _ (bytes : List ℕ) where
  -- the first i samples are read
  pub record Reading (is : List ℤ) (i : ℕ) : Type 0 where
    pub i_le : i ≤ length is
    pub size : length bytes ≡ 2 * length is
    pub go : take i is ++ samples_of (drop (2 * i) bytes) ≡ samples_of bytes

  pub reading_start : (was : List ℤ) → length bytes ≡ 2 * length was → Reading was 0
  reading_start was e = record { i_le = omega arith; size = e; go = refl }

  module _ (is : List ℤ) (i : ℕ) (g : Reading is i) where
    pub reading_next : (x : ℤ) → i < length is → x ≡ signed 16 (get_or bytes (2 * i + 1) 0 * 256 + get_or bytes (2 * i) 0) → Reading (set is i x) (i + 1)
    unfolding samples_of
    reading_next x h e =
        let s = g.size in
        let l : 2 * i < length bytes = omega arith in
        let k : 2 * i + 1 < length bytes = omega arith in
        let m : suc (2 * i) < length bytes = omega arith in
        let d : drop (2 * i) bytes ≡ get_or bytes (2 * i) 0 ∷ get_or bytes (2 * i + 1) 0 ∷ drop (suc (suc (2 * i))) bytes =
        rw (add-one (2 * i), drop-cons bytes (2 * i) 0 l, drop-cons bytes (suc (2 * i)) 0 m) in
        record {
          i_le = simp length-set (omega arith);
          size = simp length-set g.size;
          go = rw (two_on i, add-one i, take-suc-set is i x h, append_assoc, e) (rw d at g.go);
        }

    pub reading_done : length is ≤ i → is ≡ samples_of bytes
    unfolding samples_of
    reading_done h =
        let s = g.size in
        let l : length bytes ≤ 2 * i = omega arith in
        sym (append-nil is) ∙ (rw (take_all i is h, drop_of_length-le bytes l) at g.go)

-- two bytes as a sample
pub sample_is : (low high : ℕ) → Fits w8 low → Fits w8 high → to_z w16 (low + high * 256) ≡ signed 16 (high * 256 + low)
sample_is low high l h =
    let e : low + high * 256 ≡ high * 256 + low = omega arith in
    ap (to_z w16) e ∙ number_is w16 (high * 256 + low) (omega (arith, l.fits, h.fits))

-- ---- samples to bytes

pub high_small : (w : ℕ) (x : ℤ) → w ≡ mod_z (2 ^ 16) x → w / 256 < 256
high_small w x e = omega (arith, mod_z_lt (2 ^ 16) x (omega arith))

module _ (samples : List ℤ) where
  -- the first i samples are written
  pub record Writing (is : List ℕ) (i : ℕ) : Type 0 where
    pub i_le : i ≤ length samples
    pub size : length is ≡ 2 * length samples
    pub go : take (2 * i) is ++ bytes_of (drop i samples) ≡ bytes_of samples

  pub writing_start : (was : List ℕ) → length was ≡ 2 * length samples → Writing was 0
  writing_start was e = record { i_le = omega arith; size = e; go = refl }

  module _ (is : List ℕ) (i : ℕ) (g : Writing is i) where
    pub writing_next : (w : ℕ) → i < length samples → w ≡ mod_z (2 ^ 16) (get_or samples i (pos 0))
        → Writing (set (set is (2 * i) (w % 256)) (2 * i + 1) (w / 256)) (i + 1)
    unfolding bytes_of
    writing_next w h e =
        let s = g.size in
        let l : 2 * i < length is = omega arith in
        let m : suc (2 * i) < length (set is (2 * i) (w % 256)) = simp length-set (omega arith) in
        record {
          i_le = omega arith;
          size = simp length-set g.size;
          go = rw (two_on i, add-one (2 * i), add-one i, take-suc-set (set is (2 * i) (w % 256)) (suc (2 * i)) (w / 256) m, take-suc-set is (2 * i) (w % 256) l, append_assoc, append_assoc, e) (rw (drop-cons samples i (pos 0) h) at g.go);
        }

    pub writing_done : length samples ≤ i → is ≡ bytes_of samples
    unfolding bytes_of
    writing_done h =
        let s = g.size in
        let l : length is ≤ 2 * i = omega arith in
        sym (append-nil is) ∙ (rw (take_all (2 * i) is l, drop_of_length-le samples h) at g.go)
