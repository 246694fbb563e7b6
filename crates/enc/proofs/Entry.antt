-- The promise, from the test that was passed last.
use Prim.Native.Nat.{ℕ, ◌≤◌, ◌<◌}
use mathlib.Core.Path.{◌≡◌, ◌∙◌}
use mathlib.Core.Bool.{Bool, true, false}
use mathlib.Core.List.{List}
use borrow.Author.Tests.{le-leb, lt-leb}
use lib.ListN.{length}
use lib.Dec.{leb}
use lib.IntN.{ℤ, pos}
use Rattle.rules.specs.declared.StreamInfo.{StreamInfo}
use Rattle.rules.specs.declared.PackingSettings.{PackingSettings}
use Rattle.rules.specs.declared.Refusal.{Refusal}
use Rattle.std.specs.Prelude.{Result, Ok, Err}
use Rattle.rules.specs.declared.Refusal.TheVariants.{Stream, Room, Settings, Passage, Bytes}
use Rattle.rules.specs.Answers.{pick}
use Rattle.rules.specs.Stream.{i32_output, accepted, scratch_places}
use Rattle.rules.specs.Buffers.{laid, cleared}
use Rattle.rules.specs.Writer.{in_range, passage_fits, packet_bytes, packed, bytes_after, pack_scratch_after}
use Rattle.enc.specs.Promise.{Promise}
use Rattle.enc.specs.Emitted.{Packing}
use Rattle.laws.specs.Reader.{cleared-cleared}

module _ (s : StreamInfo) (t : PackingSettings) (passage : List ℤ) (bytes : List ℕ) (scr : List ℤ) where
  pub unaccepted : accepted i32_output s ≡ false → Promise s t passage bytes bytes scr scr (Err Stream)
  unfolding packed bytes_after pack_scratch_after
  unaccepted a = record { answer = rw a; output = rw a; room = rw a }

  module _ (a : accepted i32_output s ≡ true) where
    pub unroomy : length scr < scratch_places s → Promise s t passage bytes bytes scr scr (Err Room)
    unfolding packed bytes_after pack_scratch_after
    unroomy h =
        let n = lt-leb (scratch_places s) (length scr) h in
        record { answer = rw (a, n); output = rw (a, n); room = rw (a, n) }

    module _ (h : scratch_places s ≤ length scr) {scr₁ : List ℤ} (z : scr₁ ≡ cleared (pos 0) (scratch_places s) scr) where
      roomy : leb (scratch_places s) (length scr) ≡ true
      roomy = le-leb (scratch_places s) (length scr) h

      pub unranged : in_range s t ≡ false → Promise s t passage bytes bytes scr scr₁ (Err Settings)
      unfolding packed bytes_after pack_scratch_after
      unranged r = record { answer = rw (a, roomy, r); output = rw (a, roomy, r); room = rw (a, roomy) z }

      module _ (r : in_range s t ≡ true) where
        pub unfitting : passage_fits s t passage ≡ false → Promise s t passage bytes bytes scr scr₁ (Err Passage)
        unfolding packed bytes_after pack_scratch_after
        unfitting f = record { answer = rw (a, roomy, r, f); output = rw (a, roomy, r, f); room = rw (a, roomy) z }

        pub packs : passage_fits s t passage ≡ true → {bytes' : List ℕ} {scr₂ : List ℤ} {q : Result ℕ Refusal} → Packing s t passage bytes bytes' scr₁ scr₂ q
            → Promise s t passage bytes bytes' scr scr₂ q
        unfolding packed bytes_after pack_scratch_after
        packs f {bytes'} p = record {
          answer = rw (a, roomy, r, f) p.answer;
          output = rw (a, roomy, r, f) (by (leb (length (packet_bytes s t passage)) (length bytes)) p.bytes);
          room = rw (a, roomy) (p.left ∙ rw z (cleared-cleared (pos 0) (scratch_places s) scr h));
        }
          where
            kept : Result ℕ Refusal → List ℕ
            kept (Ok n) = laid (packet_bytes s t passage) bytes
            kept (Err x) = bytes

            by : (b : Bool) → bytes' ≡ pick b (laid (packet_bytes s t passage) bytes) bytes
                → bytes' ≡ kept (pick b (Ok (length (packet_bytes s t passage))) (Err Bytes))
            by true e = e
            by false e = e
