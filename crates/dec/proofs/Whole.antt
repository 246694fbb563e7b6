-- The loop over the elements, for every kind of output: what the rules still read from here makes what they read from the start.
use Prim.Native.Nat.{ℕ, suc, ◌+◌, ◌-◌, ◌*◌, ◌/◌, ◌≤◌, ◌<◌}
use mathlib.Core.Path.{◌≡◌, refl, sym, ap, ◌∙◌}
use mathlib.Core.List.{List, [], map, append_assoc, append-nil, map-append}
use native.Mathlib.Nat.{zero-add, add-zero}
use native.Mathlib.Omega.{arith}
use lib.ListN.{length, drop, length-append, length-map}
use lib.IntN.{ℤ, pos}
use Rattle.std.specs.Prelude.{Option, None, Some, Result, Ok, Err}
use Rattle.rules.specs.declared.StreamInfo.{StreamInfo}
use Rattle.rules.specs.declared.Refusal.{Refusal}
use Rattle.rules.specs.Answers.{Ans, got, bad, bind, answered}
use Rattle.rules.specs.Stream.{Width, output_places, scratch_places}
use Rattle.rules.specs.Buffers.{cleared, stored}
use Rattle.rules.specs.Element.{Sound}
use Rattle.rules.specs.Packet.{Turn, audio, followed, onward, turn, run, packet}
use Rattle.rules.specs.Reader.{answer_of}
use Rattle.laws.specs.Answers.{answered_bad}
use Rattle.laws.specs.Words.{Every, none, one, every_map}
use Rattle.laws.specs.Stored.{stored-length, stored-append, stored-rest, cleared-same}
use Rattle.laws.specs.Packet.{turn_grows}
use Rattle.laws.specs.Shape.{all_got}
use Rattle.laws.specs.Reader.{cleared-cleared, every_append, Fits, turn_fits, packet_shaped, kept, written-stored}
use Rattle.bitcursor.specs.Cursor.{Cursor}
use Rattle.bitcursor.proofs.Laws.{value_of, refused_of}
use Rattle.buffers.specs.Halves.{parts}
use Rattle.buffers.proofs.Halves.{parts_count, with_length, with_rest}
use Rattle.dec_element.specs.Heard.{untracked}
use Rattle.dec_packet.specs.declared.State.{State}
use Rattle.dec_packet.specs.declared.Element.{Element}
use Rattle.dec_packet.specs.declared.Element.TheVariants.{Audio, Passed, End}
use Rattle.dec_packet.specs.Told.{untracked_turn, turn_of, scratch_turned, Turns}
use Rattle.dec.specs.Told.{Readable, answer_at, Finished}
use Rattle.dec.proofs.Steps.{heard_audio, heard_passed, heard_end}

-- ---- sounds one after the other

abbrev silence : Sound
silence = record { samples = 0; chans = []; tracks = [] }

followed-none : (a : Ans Sound) → answered (followed silence) a ≡ a
unfolding answered followed
followed-none (got sound p) = refl
followed-none (bad x p) = refl

followed-followed : (x y : Sound) (a : Ans Sound) → answered (followed x) (answered (followed y) a) ≡ answered (followed (followed x y)) a
unfolding answered followed
followed-followed x y (got z p) = simp append_assoc
followed-followed x y (bad r p) = refl

followed-bind : (x : Sound) (a : Ans Sound) → bind a (λ rest p. got (followed x rest) p) ≡ answered (followed x) a
unfolding bind answered
followed-bind x (got z p) = refl
followed-bind x (bad r p) = refl

map_short : {A : Type 0} (f : ℤ → A) (n : ℕ) {chans : List (List ℤ)} → Every (λ l. length l ≤ n) chans → Every (λ l. length l ≤ n) (map (map f) chans)
map_short f n none = none
map_short f n (one {x = l} h hs) = one {x = map f l} (rw (length-map l f) h) (map_short f n hs)

-- ---- the loop

module _ {A : Type 0} (w : Width A) (s : StreamInfo) (start : Cursor) (was : List A) (scr₀ : List ℤ) where
  abbrev bits : List ℕ
  bits = start.bits

  abbrev half : ℕ
  half = s.frame_length

  abbrev Short : List (List ℤ) → Type 0
  Short = Every (λ l. length l ≤ s.frame_length)

  -- what holds before each element; `heard` is the sound of those before it
  pub record Reading (out : List A) (scr : List ℤ) (st : State) (here : Cursor) : Type 0 where
    pub most : ℕ
    pub heard : Sound
    pub go : packet bits s ≡ answered (followed heard) (run bits s most st.channels st.samples here.at)
    pub same : here.bits ≡ bits
    pub enough : length bits < here.at + 3 * most
    pub inside : here.at ≤ length bits
    pub width : st.channels ≡ length heard.chans
    pub channels_le : st.channels ≤ s.num_channels
    pub short : Short heard.chans
    pub output : out ≡ stored s.num_channels 0 (kept w s heard) was
    pub same_room : length scr ≡ length scr₀
    pub room : cleared (pos 0) (scratch_places s) scr ≡ cleared (pos 0) (scratch_places s) scr₀

  pub reading_start : start.at ≡ 0 → Reading was scr₀ (record { channels = 0; samples = None }) start
  unfolding packet stored
  reading_start e = record {
    most = length bits / 3 + 1;
    heard = silence;
    go = rw e (sym (followed-none (run bits s (length bits / 3 + 1) 0 None 0)));
    same = refl;
    enough = omega arith;
    inside = omega arith;
    width = refl;
    channels_le = omega arith;
    short = none;
    output = refl;
    same_room = refl;
    room = refl;
  }

  module _ {out : List A} {scr : List ℤ} {st : State} {here : Cursor} (g : Reading out scr st here) where
    abbrev now : Ans Turn
    now = turn bits s st.channels st.samples here.at

    abbrev after : ℕ → Option ℕ → ℕ → Ans Sound
    after = run bits s (g.most - 1)

    pub reading_same : length out ≡ length was
    reading_same = ap length g.output ∙ stored-length s.num_channels 0 (kept w s g.heard) was

    pub reading_readable : Readable s was scr₀ → Readable s out scr
    reading_readable r = record { legal = r.legal; places = rw reading_same r.places; room = rw g.same_room r.room }

    -- one turn of the rules
    turned : packet bits s ≡ answered (followed g.heard) (bind now (onward st.channels st.samples after))
    unfolding run
    turned =
        let e : g.most ≡ suc (g.most - 1) = omega (arith, g.enough, g.inside) in
        g.go ∙ ap (λ (most : ℕ). answered (followed g.heard) (run bits s most st.channels st.samples here.at)) e

    -- silence over what was stored is silence over what was there
    silent : cleared w.silence (output_places s) out ≡ cleared w.silence (output_places s) was
    silent =
        cleared-same w.silence (output_places s) out was reading_same
        (ap (drop (output_places s)) g.output ∙ stored-rest s.frame_length s.num_channels 0 (kept w s g.heard) was (map_short (w.keep s.bit_depth) s.frame_length g.short) (rw (zero-add, length-map, ← g.width) g.channels_le))

    -- an element that brings a sound, or silence, and goes on
    next_by : (x : Sound) (so_far : ℕ) (m : Option ℕ) (there : Cursor) {out' : List A} {scr' : List ℤ}
        → bind now (onward st.channels st.samples after) ≡ answered (followed x) (after so_far m there.at)
        → there.bits ≡ bits → here.at + 3 ≤ there.at → there.at ≤ length bits
        → so_far ≡ st.channels + length x.chans → so_far ≤ s.num_channels → Short x.chans
        → out' ≡ stored s.num_channels st.channels (kept w s x) out
        → length scr' ≡ length scr → cleared (pos 0) (scratch_places s) scr' ≡ cleared (pos 0) (scratch_places s) scr
        → Reading out' scr' (record { channels = so_far; samples = m }) there
    unfolding followed
    next_by x so_far m there {out'} {scr'} e same grown ended width fits short o ls cs =
        let xs : List (List A) = kept w s g.heard in
        let first : st.channels ≡ 0 + length xs = rw (zero-add, length-map) g.width in
        record {
          most = g.most - 1;
          heard = followed g.heard x;
          go = turned ∙ ap (answered (followed g.heard)) e ∙ followed-followed g.heard x (after so_far m there.at);
          same = same;
          enough = omega (arith, g.enough, g.inside);
          inside = ended;
          width = width ∙ rw (length-append, g.width);
          channels_le = fits;
          short = every_append g.short short;
          output =
              o ∙ rw (map-append, stored-append s.num_channels 0 xs (kept w s x) was, ← first, ← g.output);
          same_room = ls ∙ g.same_room;
          room = cs ∙ g.room;
        }

    module _ (long : scratch_places s ≤ length scr₀) {there : Cursor} {scr' : List ℤ} {r : Result Element Refusal} (h : Turns s st.channels (λ packet. turn packet s st.channels st.samples) here there scr scr' r) where
      -- fewer bits are left for the next element
      pub reading_audio : {k n : ℕ} {out' : List A} → r ≡ Ok (Audio k n) → out' ≡ stored s.num_channels st.channels (map (map (w.keep s.bit_depth)) (parts half n k scr')) out
          → Reading out' scr' (record { channels = st.channels + k; samples = Some n }) there × (length there.bits - there.at < length here.bits - here.at)
      unfolding turn_of scratch_turned bind onward Fits untracked
      reading_audio {k} {n} {out'} e o = let f = heard_audio now (rw g.same at (value_of h.reads e)) in by f.0 f.1 f.2
        where
          by : (sound : Sound) → now ≡ got (audio sound) there.at → record { samples = n; chans = parts half n k scr'; tracks = [] } ≡ untracked sound
              → Reading out' scr' (record { channels = st.channels + k; samples = Some n }) there × (length there.bits - there.at < length here.bits - here.at)
          by sound f told =
              let j = all_got (rw f at (turn_fits bits s st.channels st.samples here.at)) in
              let b = turn_grows bits s st.channels st.samples here.at f in
              let count : sound.samples ≡ n = sym (ap (λ (x : Sound). x.samples) told) in
              let chans : parts half n k scr' ≡ sound.chans = ap (λ (x : Sound). x.chans) told in
              let width : length sound.chans ≡ k = ap length (sym chans) ∙ parts_count half n k scr' in
              let room-is = rw (g.same, f) at h.scratch_is in
              let length-same : length scr' ≡ length scr = rw room-is (with_length half sound.chans scr) in
              let rest-same : drop (scratch_places s) scr' ≡ drop (scratch_places s) scr = rw room-is (with_rest half 2 sound.chans scr j.two (omega (arith, g.same_room))) in
              let goes : bind now (onward st.channels st.samples after) ≡ answered (followed sound) (after (st.channels + k) (Some n) there.at) =
              rw (f, width) (followed-bind sound (after (st.channels + k) (Some sound.samples) there.at)) ∙ ap (λ (m : ℕ). answered (followed sound) (after (st.channels + k) (Some m) there.at)) count in (
                next_by sound (st.channels + k) (Some n) there goes
                    (h.reads.same ∙ g.same) b.0 b.1 (rw width) (rw (← width) j.channels_le) (every_map (λ l f. omega (arith, j.samples_le)) j.long)
                    (rw chans at o) length-same (cleared-same (pos 0) (scratch_places s) scr' scr length-same rest-same),
                rw (h.reads.same, g.same) (omega (arith, b.0, b.1)),
              )

      pub reading_passed : r ≡ Ok Passed → Reading out scr' st there × (length there.bits - there.at < length here.bits - here.at)
      unfolding turn_of scratch_turned bind onward stored
      reading_passed e =
          let f = heard_passed now (rw g.same at (value_of h.reads e)) in
          let b = turn_grows bits s st.channels st.samples here.at f in
          let room-is = rw (g.same, f) at h.scratch_is in (
            next_by silence st.channels st.samples there (rw f (sym (followed-none (after st.channels st.samples there.at)))) (h.reads.same ∙ g.same) b.0 b.1 (sym (add-zero st.channels))
                g.channels_le none refl (ap length room-is) (ap (cleared (pos 0) (scratch_places s)) room-is),
            rw (h.reads.same, g.same) (omega (arith, b.0, b.1)),
          )

      pub reading_end : output_places s ≤ length was → {n : ℕ} → r ≡ Ok (End n) → Finished w s start there was out scr₀ scr' (Ok (n * s.num_channels))
      unfolding turn_of scratch_turned bind onward answered followed answer_of answer_at
      reading_end places {n} e =
          let f = heard_end now (rw g.same at (value_of h.reads e)) in
          let room-is = rw (g.same, f) at h.scratch_is in
          let sound : Sound = followed g.heard (record { samples = n; chans = []; tracks = [] }) in
          let read : packet bits s ≡ got sound there.at = rw f at turned in
          let all : stored s.num_channels 0 (kept w s g.heard) was ≡ stored s.num_channels 0 (kept w s sound) was =
          ap (λ (chans : List (List ℤ)). stored s.num_channels 0 (map (map (w.keep s.bit_depth)) chans) was) (sym (append-nil g.heard.chans)) in
          record {
            answer = rw read refl;
            output = λ heard i q. rw read (g.output ∙ all ∙ sym (written-stored w s (all_got (rw read at (packet_shaped bits s))) was places there.at));
            silent = silent;
            room = ap (cleared (pos 0) (scratch_places s)) room-is ∙ g.room;
          }

      pub reading_refused : {x : Refusal} → r ≡ Err x → Finished w s start there was out scr₀ scr' (Err x)
      unfolding scratch_turned bind answered answer_of answer_at
      reading_refused e =
          let f = answered_bad untracked_turn now (rw g.same at (refused_of h.reads e)) in
          let room-is = rw (g.same, f) at h.scratch_is in
          let read = rw f at turned in
          record {
            answer = rw read refl;
            output = λ heard i q. (let z : ◌≡◌ {A = ℕ} 0 1 = cc in absurd (omega arith));
            silent = silent;
            room = ap (cleared (pos 0) (scratch_places s)) room-is ∙ cleared-cleared (pos 0) (scratch_places s) scr (omega (arith, g.same_room)) ∙ g.room;
          }
