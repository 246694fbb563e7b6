-- Reading undoes writing: of an accepted packet, with anything after it, every answer that the reader's promise permits is the passage.
use Prim.Native.Nat.{ℕ, zero, suc, ◌*◌, ◌≤◌}
use Rattle.std.specs.Prelude.{◌≡◌, take, Result, Ok}
use Rattle.std.proofs.Math.Path.{refl, ap}
use Rattle.std.proofs.Common.{ap₂, ◌∙◌, arith, take_at, drop_at}
use Rattle.std.proofs.Math.Bool.{true}
use mathlib.Core.List.{List, [], ◌∷◌, ◌++◌, map, map-map}
use Rattle.std.proofs.Math.Nat.{mul-le-mul_right}
use borrow.Author.Tests.{le-leb}
use Rattle.std.proofs.Math.ListN.{length, drop, length-map}
use Rattle.std.proofs.Math.IntN.{ℤ}
use Rattle.rules.specs.declared.StreamInfo.{StreamInfo}
use Rattle.rules.specs.declared.PackingSettings.{PackingSettings}
use Rattle.rules.specs.declared.Decoded.{Decoded}
use Rattle.rules.specs.declared.Refused.{Refused}
use Rattle.rules.specs.Answers.{got}
use Rattle.rules.specs.Bits.{bits_of, place_of}
use Rattle.rules.specs.Words.{wrap, shift_left}
use Rattle.rules.specs.Stream.{Width, i16_output, i32_output, accepted, output_places, scratch_places}
use Rattle.rules.specs.Buffers.{every, lane, lanes, interleaved}
use Rattle.rules.specs.Packet.{packet}
use Rattle.rules.specs.Reader.{roomy, decoded, answer_of, written, output_after}
use Rattle.rules.specs.Writer.{packet_bytes}
use Rattle.laws.specs.Bits.{length-bits_of}
use Rattle.laws.specs.Words.{AllIn, none, one, wrap_id}
use Rattle.laws.specs.Buffers.{laid-all, interleaved-lanes}
use Rattle.laws.specs.Writer.{Held, told, samples_of}
use Rattle.laws.specs.Reader.{bits_append}
use Rattle.laws.specs.Round.{sound_of, packet_back}
use Rattle.enc.specs.Promise as writer
use Rattle.dec.specs.Promise as reader
use Rattle.theorems.specs.Limit.{wrote}

-- ---- samples that are kept as an output keeps them

module _ {A B : Type 0} (f : A → B) where
  every_mapped : (gap wait : ℕ) (xs : List A) → every gap wait (map f xs) ≡ map f (every gap wait xs)
  unfolding every
  every_mapped gap wait [] = refl
  every_mapped gap zero (x ∷ xs) = ap (λ (ys : List B). f x ∷ ys) (every_mapped gap gap xs)
  every_mapped gap (suc wait) (x ∷ xs) = every_mapped gap wait xs

  lanes_mapped : (c : ℕ) (xs : List A) → lanes c (map f xs) ≡ map (map f) (lanes c xs)
  lanes_mapped c xs = simp (lanes, lane, every_mapped, map-map)

wrap-all : {xs : List ℤ} → AllIn 16 xs → map (wrap 16) xs ≡ xs
wrap-all none = refl
wrap-all (one {x = x} h hs) = ap₂ ◌∷◌ (wrap_id 16 x (omega arith) h) (wrap-all hs)

-- ---- what comes back

-- the reader counts the passage, stops behind the packet's n bytes, and leaves `kept` in the output; later places stay
pub record Back {A : Type 0} (passage : List ℤ) (kept : List A) (n : ℕ) (out out' : List A) (r : Result Decoded Refused) : Type 0 where
  pub answer : r ≡ Ok (record { count = length passage; at = place_of (8 * n) })
  pub samples : take (length passage) out' ≡ kept
  pub later : drop (length passage) out' ≡ drop (length passage) out

module _ {s : StreamInfo} {t : PackingSettings} {passage : List ℤ} (held : Held s t) (samples : AllIn 16 passage)
    {bytes bytes' : List ℕ} {scr scr' : List ℤ} {n : ℕ} (promise : writer.Promise s t passage bytes bytes' scr scr' (Ok n)) where
  -- the history and the coefficients after every sample, worked out from the packet's bits, are those worked out from the passage
  pub after-every-sample : (later : List ℕ) → packet (bits_of (take n bytes' ++ later)) s ≡ got (sound_of s t passage) (8 * n)
  after-every-sample later =
      let w = wrote held.mb_byte promise in
      let place : length (bits_of (packet_bytes s t passage)) ≡ 8 * n = omega (arith, length-bits_of (packet_bytes s t passage), w.count) in
      rw (w.packet, bits_append) (packet_back s t passage w.writable held samples (bits_of later) ∙ ap (got (sound_of s t passage)) place)

  -- a read of the packet, with anything after it, into output and scratch that are long enough
  module _ {A : Type 0} (later : List ℕ) {out out' : List A} {scr₂ scr₂' : List ℤ} {r : Result Decoded Refused} (places : output_places s ≤ length out) (room : scratch_places s ≤ length scr₂) where
    pub round_trip : {w : Width A} → accepted w s ≡ true → reader.Promise w s (take n bytes' ++ later) out out' scr₂ scr₂' r
        → Back passage (map (w.keep 16) passage) n out out' r
    unfolding roomy decoded answer_of output_after written
    round_trip {w} takes read =
        let facts = told s t passage (wrote held.mb_byte promise).writable in
        let c : ℕ = s.num_channels in
        let kept : List A = map (w.keep 16) passage in
        let size : length kept ≡ length passage = length-map passage (w.keep 16) in
        let fit : length kept ≤ length out = omega (arith, mul-le-mul_right c facts.rows_le, facts.rows) in
        let long : roomy s (length out) (length scr₂) ≡ true = rw (le-leb (output_places s) (length out) places, le-leb (scratch_places s) (length scr₂) room) in
        let heard = after-every-sample later in
        let lies : interleaved (samples_of s passage) (map (map (w.keep 16)) (lanes c passage)) ≡ kept =
        rw (← (lanes_mapped (w.keep 16) c passage)) (interleaved-lanes (samples_of s passage) c kept facts.channels_ge (size ∙ facts.rows)) in
        let whole : out' ≡ kept ++ drop (length passage) out = read.output ∙ rw (takes, long, heard, facts.depth, lies, laid-all kept out fit, size) in
        record {
          answer = read.answer ∙ rw (takes, long, heard, ← facts.rows);
          samples = rw whole (take_at kept _ (length passage) size);
          later = rw whole (drop_at kept _ (length passage) size);
        }

  module _ (later : List ℕ) {out out' scr₂ scr₂' : List ℤ} {r : Result Decoded Refused} (places : output_places s ≤ length out) (room : scratch_places s ≤ length scr₂) where
    -- as `i16`, the passage itself
    pub round_trip_i16 : reader.Promise i16_output s (take n bytes' ++ later) out out' scr₂ scr₂' r → Back passage passage n out out' r
    unfolding accepted
    round_trip_i16 read =
        let w = (wrote held.mb_byte promise).writable in
        let depth : s.bit_depth ≡ 16 = (told s t passage w).depth in
        rw (wrap-all samples) at (round_trip later places room {w = i16_output} (rw depth (rw depth at w.reader)) read)

    -- as `i32`, the passage in the upper 16 bits
    pub round_trip_i32 : reader.Promise i32_output s (take n bytes' ++ later) out out' scr₂ scr₂' r → Back passage (map (λ x. shift_left x 16) passage) n out out' r
    round_trip_i32 = round_trip later places room {w = i32_output} (wrote held.mb_byte promise).writable.reader
