-- One element: its sound judged against the sample number, elements without sound, and the eight tags.
use Prim.Native.Nat.{ℕ, ◌+◌, ◌*◌, ◌<◌, ◌≤◌}
use mathlib.Core.Path.{◌≡◌, refl, ap, sym, ◌∙◌}
use mathlib.Core.Bool.{true, false}
use mathlib.Core.List.{List}
use mathlib.Core.Logic.{◌⊎◌, inl, inr}
use native.Mathlib.Omega.{arith}
use borrow.Author.Tests.{eq-eqb, ne_eqb, le-leb, lt-leb}
use lib.Dec.{eqb}
use lib.ListN.{length, drop, replicate, length-replicate}
use lib.Seq.{drop_at}
use lib.IntN.{ℤ, pos}
use Rattle.std.specs.Prelude.{Option, None, Some, Result, Ok, Err, is_err}
use Rattle.std.specs.Option.{unwrap_or}
use Rattle.rules.specs.declared.StreamInfo.{StreamInfo}
use Rattle.rules.specs.declared.Refusal.{Refusal}
use Rattle.rules.specs.declared.Refusal.TheVariants as refusal
use Rattle.rules.specs.Answers.{got, bind, answered, Read, check}
use Rattle.rules.specs.Bits.{field}
use Rattle.rules.specs.Buffers.{cleared}
use Rattle.rules.specs.Element.{Sound, audio_element}
use Rattle.rules.specs.Packet.{Turn, audio, passed, end, agrees, data_element, fill_element, sound_element, end_element, tagged, turn}
use Rattle.laws.specs.Answers.{answered_got, answered_bad}
use Rattle.laws.specs.Buffers.{laid-length, laid-all}
use Rattle.laws.specs.Shape.{all_got, element_shaped}
use Rattle.laws.specs.Stored.{cleared-same}
use Rattle.bitcursor.specs.Cursor.{Cursor}
use Rattle.bitcursor.specs.Reads.{told, Reads}
use Rattle.bitcursor.proofs.Laws.{value_of, refused_of}
use Rattle.buffers.proofs.Halves.{parts_count, with_length, with_rest}
use Rattle.dec_element.specs.Heard.{untracked, scratch_heard, Hears}
use Rattle.dec_packet.specs.declared.Element.{Element}
use Rattle.dec_packet.specs.declared.Element.TheVariants.{Audio, Passed, End}
use Rattle.dec_packet.specs.Told.{untracked_turn, turn_of, Sane, scratch_turned, Turns, Kept, Turning}

-- ---- a sound, once it is heard

abbrev judged : Option ℕ → (List ℕ → Read Sound) → List ℕ → Read Turn
judged m rule bits p = bind (rule bits p) (λ sound q. bind (check (agrees m sound.samples) refusal.Disagree q) (λ u i. got (audio sound) i))

module _ (s : StreamInfo) (so_far w : ℕ) (m : Option ℕ) {rule : List ℕ → Read Sound} {was is : Cursor} {scr scr' : List ℤ} {r : Result ℕ Refusal} (h : Hears s.frame_length w rule was is scr scr' r) where
  abbrev half : ℕ
  half = s.frame_length

  module _ (room : 2 * s.frame_length ≤ length scr) where
    pub heard_refused : {x : Refusal} → r ≡ Err x → Turning s so_far (judged m rule) was is scr scr' (Err x)
    unfolding told answered bind Kept scratch_heard
    heard_refused k =
        let e = answered_bad untracked (rule was.bits was.at) (refused_of h.reads k) in
        let l : length (replicate (2 * half) (pos 0)) ≡ 2 * half = length-replicate (2 * half) (pos 0) in
        let rest : drop (2 * half) (cleared (pos 0) (2 * half) scr) ≡ drop (2 * half) scr =
        ap (drop (2 * half)) (laid-all (replicate (2 * half) (pos 0)) scr (omega arith)) ∙ drop_at (replicate (2 * half) (pos 0)) _ (2 * half) l ∙ ap (λ (k : ℕ). drop k scr) l in
        record { reads = record { tells = rw e refl; same = h.reads.same }; sane = tt; kept = rw e (rw (rw e at h.scratch_is) (laid-length _ scr, rest)) }

    module _ {n : ℕ} (k : r ≡ Ok n) where
      pub heard_disagrees : 1 ≤ w → w ≤ 2 → agrees m n ≡ false → Turning s so_far (judged m rule) was is scr scr' (Err refusal.Disagree)
      unfolding told answered bind Kept scratch_heard untracked
      heard_disagrees some two e =
          let f = answered_got untracked (rule was.bits was.at) (value_of h.reads k) in
          let count : f.0.samples ≡ n = sym (ap (λ (x : Sound). x.samples) f.2) in
          let chans : length f.0.chans ≡ w = sym (ap (λ (x : Sound). length x.chans) f.2) ∙ parts_count half n w scr' in
          let differ : agrees m f.0.samples ≡ false = ap (agrees m) count ∙ e in
          record {
            reads = record { tells = rw (f.1, differ) refl; same = h.reads.same };
            sane = tt;
            kept = rw (f.1, differ) (rw (rw f.1 at h.scratch_is) (with_length half f.0.chans scr, with_rest half 2 f.0.chans scr (omega arith) room));
          }

      pub heard-agrees : 1 ≤ w → w ≤ 2 → so_far + w ≤ s.num_channels → n ≤ half → agrees m n ≡ true → Turning s so_far (judged m rule) was is scr scr' (Ok (Audio w n))
      unfolding told answered bind Kept scratch_heard scratch_turned turn_of Sane untracked_turn untracked
      heard-agrees some two fits short e =
          let f = answered_got untracked (rule was.bits was.at) (value_of h.reads k) in
          let count : f.0.samples ≡ n = sym (ap (λ (x : Sound). x.samples) f.2) in
          let agreed : agrees m f.0.samples ≡ true = ap (agrees m) count ∙ e in
          record {
            reads = record { tells = rw (f.1, agreed) (ap (λ (x : Sound). got (audio x) is.at) f.2); same = h.reads.same };
            sane = (short, some, two, fits);
            kept = rw (f.1, agreed) (rw f.1 at h.scratch_is);
          }

-- the sample number is at most a frame
pub samples_le : (s : StreamInfo) (w : ℕ) {was is : Cursor} {scr scr' : List ℤ} {r : Result ℕ Refusal} {n : ℕ} → 1 ≤ w
    → Hears s.frame_length w (λ bits. audio_element bits s w) was is scr scr' r → r ≡ Ok n → n ≤ s.frame_length
unfolding untracked
samples_le s w {was} l h k =
    let f = answered_got untracked (audio_element was.bits s w was.at) (value_of h.reads k) in
    let shaped = all_got (rw f.1 at (element_shaped was.bits s w l was.at)) in
    omega (arith, shaped.samples_le, ap (λ (x : Sound). x.samples) f.2)

-- the known sample number agrees with this one, which stands for it where none is known
pub agrees_known : (m : Option ℕ) (n : ℕ) → agrees m n ≡ eqb (unwrap_or m n) n
unfolding agrees
agrees_known None n = sym (eq-eqb n n refl)
agrees_known (Some k) n = refl

-- the rule, past the test of channels
pub sound_room : {s : StreamInfo} {so_far : ℕ} (m : Option ℕ) (w : ℕ) {was is : Cursor} {scr scr' : List ℤ} {r : Result Element Refusal} → so_far + w ≤ s.num_channels
    → Turning s so_far (judged m (λ bits. audio_element bits s w)) was is scr scr' r → Turning s so_far (λ bits. sound_element bits s so_far m w) was is scr scr' r
unfolding sound_element bind
sound_room {s} {so_far} m w h t = rw (le-leb (so_far + w) s.num_channels h) t

pub sound_many : {s : StreamInfo} {so_far : ℕ} (m : Option ℕ) (w : ℕ) {was : Cursor} {scr : List ℤ} → s.num_channels < so_far + w
    → Turning s so_far (λ bits. sound_element bits s so_far m w) was was scr scr (Err refusal.ManyChannels)
unfolding sound_element bind told answered Kept
sound_many {s} {so_far} m w h =
    let e = lt-leb (so_far + w) s.num_channels h in record { reads = record { tells = rw e refl; same = refl }; sane = tt; kept = rw e (refl, refl) }

-- ---- no sound

module _ {s : StreamInfo} {so_far : ℕ} {A : Type 0} {g : A → Turn} {rule : List ℕ → Read Turn} {was is : Cursor} {scr : List ℤ} {r : Result A Refusal} (t : Reads g rule was is r) where
  pub refused_turning : {x : Refusal} → r ≡ Err x → Turning s so_far rule was is scr scr (Err x)
  unfolding told answered Kept
  refused_turning k = let e = refused_of t k in record { reads = record { tells = rw e refl; same = t.same }; sane = tt; kept = rw e (refl, refl) }

  module _ {v : A} (k : r ≡ Ok v) where
    pub passed_turning : g v ≡ passed → Turning s so_far rule was is scr scr (Ok Passed)
    unfolding told answered Kept turn_of Sane scratch_turned untracked_turn
    passed_turning e =
        let f = rw e at (value_of t k) in record { reads = record { tells = rw f refl; same = t.same }; sane = tt; kept = rw f refl }

    pub end_turning : {n : ℕ} → g v ≡ end n → Turning s so_far rule was is scr scr (Ok (End n))
    unfolding told answered Kept turn_of Sane scratch_turned untracked_turn
    end_turning e =
        let f = rw e at (value_of t k) in record { reads = record { tells = rw f refl; same = t.same }; sane = tt; kept = rw f refl }

-- ---- the eight tags

module _ {s : StreamInfo} {so_far : ℕ} (m : Option ℕ) {scr scr' : List ℤ} where
  -- a turn reads on after its tag
  pub tag_then : {was mid is : Cursor} {q : Result ℕ Refusal} {tag : ℕ} {r : Result Element Refusal} → Reads (λ v. v) (λ bits. field bits 3) was mid q → q ≡ Ok tag
      → Turning s so_far (λ bits. tagged bits s so_far m tag) mid is scr scr' r → Turning s so_far (λ bits. turn bits s so_far m) was is scr scr' r
  unfolding turn bind
  tag_then {was} {r} t k n =
      let e = value_of t k in
      record { reads = record { tells = rw (e, ← t.same) n.reads.tells; same = n.reads.same ∙ t.same }; sane = n.sane; kept = rw (e, ← t.same) n.kept }

  module _ {tag : ℕ} {was is : Cursor} {r : Result Element Refusal} where
    pub tag_single : (tag ≡ 0) ⊎ (tag ≡ 3) → Turning s so_far (λ bits. sound_element bits s so_far m 1) was is scr scr' r
        → Turning s so_far (λ bits. tagged bits s so_far m tag) was is scr scr' r
    unfolding tagged
    tag_single (inl e) t = rw e t
    tag_single (inr e) t = rw e t

    pub tag_pair : tag ≡ 1 → Turning s so_far (λ bits. sound_element bits s so_far m 2) was is scr scr' r
        → Turning s so_far (λ bits. tagged bits s so_far m tag) was is scr scr' r
    unfolding tagged
    tag_pair e t = rw e t

    pub tag_data : tag ≡ 4 → Turning s so_far data_element was is scr scr' r → Turning s so_far (λ bits. tagged bits s so_far m tag) was is scr scr' r
    unfolding tagged
    tag_data e t = rw e t

    pub tag_fill : tag ≡ 6 → Turning s so_far fill_element was is scr scr' r → Turning s so_far (λ bits. tagged bits s so_far m tag) was is scr scr' r
    unfolding tagged
    tag_fill e t = rw e t

    pub tag_end : 6 < tag → Turning s so_far (λ bits. end_element bits s so_far m) was is scr scr' r → Turning s so_far (λ bits. tagged bits s so_far m tag) was is scr scr' r
    unfolding tagged
    tag_end h t =
        let other : (k : ℕ) → k ≤ 6 → eqb tag k ≡ false = λ k l. ne_eqb tag k (λ e. omega arith) in
        rw (other 0 (omega arith), other 1 (omega arith), other 2 (omega arith), other 3 (omega arith), other 4 (omega arith), other 5 (omega arith), other 6 (omega arith)) t

pub tag_unsupported : {s : StreamInfo} {so_far : ℕ} (m : Option ℕ) {tag : ℕ} {was : Cursor} {scr : List ℤ} → (tag ≡ 2) ⊎ (tag ≡ 5)
    → Turning s so_far (λ bits. tagged bits s so_far m tag) was was scr scr (Err refusal.Unsupported)
unfolding tagged told answered Kept
tag_unsupported m (inl e) = rw e (record { reads = record { tells = refl; same = refl }; sane = tt; kept = (refl, refl) })
tag_unsupported m (inr e) = rw e (record { reads = record { tells = refl; same = refl }; sane = tt; kept = (refl, refl) })

-- ---- from what was kept to what is promised

module _ {s : StreamInfo} {so_far : ℕ} {rule : List ℕ → Read Turn} {was is : Cursor} {scr scr' : List ℤ} where
  pub turned_refused : {r : Result Element Refusal} → Turning s so_far rule was is scr scr' r → is_err r ≡ true → {end' : List ℤ}
      → end' ≡ cleared (pos 0) (2 * s.frame_length) scr' → Turns s so_far rule was is scr end' r
  unfolding told Kept scratch_turned
  turned_refused {r = Ok v} t e z = let y : ◌≡◌ {A = ℕ} 0 1 = cc in absurd (omega arith)
  turned_refused {r = Err x} t e z =
      let a = answered_bad untracked_turn (rule was.bits was.at) (sym t.reads.tells) in
      let k = rw a at t.kept in
      record { reads = record { tells = t.reads.tells; same = t.reads.same }; sane = tt; scratch_is = rw a (z ∙ cleared-same (pos 0) (2 * s.frame_length) scr' scr k.0 k.1) }

  pub turned_on : {r : Result Element Refusal} → Turning s so_far rule was is scr scr' r → is_err r ≡ false → Turns s so_far rule was is scr scr' r
  unfolding told Kept
  turned_on {r = Err x} t e = let z : ◌≡◌ {A = ℕ} 0 1 = cc in absurd (omega arith)
  turned_on {r = Ok v} t e =
      let f = answered_got untracked_turn (rule was.bits was.at) (sym t.reads.tells) in
      record { reads = t.reads; sane = t.sane; scratch_is = rw f.1 (rw f.1 at t.kept) }
