-- The entry: the tests of 2 and 3, and the promise from its parts. Once, for every kind of output.
use Prim.Native.Nat.{ℕ, ◌≤◌}
use mathlib.Core.Path.{◌≡◌, refl, ◌∙◌}
use mathlib.Core.Bool.{Bool, true, false}
use mathlib.Core.List.{List}
use native.Mathlib.Omega.{arith}
use borrow.Author.Tests.{leb-true}
use lib.ListN.{length}
use lib.IntN.{ℤ, pos}
use Rattle.std.specs.Prelude.{Result, Ok, Err}
use Rattle.rules.specs.declared.StreamInfo.{StreamInfo}
use Rattle.rules.specs.declared.Refusal.{Refusal}
use Rattle.rules.specs.declared.Refusal.TheVariants.{Stream, Room}
use Rattle.rules.specs.Answers.{Ans, got, bad}
use Rattle.rules.specs.Bits.{place_of, bits_of}
use Rattle.rules.specs.Stream.{Width, accepted, output_places, scratch_places}
use Rattle.rules.specs.Buffers.{cleared}
use Rattle.rules.specs.Element.{Sound}
use Rattle.rules.specs.Packet.{packet}
use Rattle.rules.specs.Reader.{roomy, decoded, answer_of, written, output_after, scratch_after}
use Rattle.laws.specs.Tests.{and_parts, accepted_fields}
use Rattle.bitcursor.specs.Cursor.{Cursor}
use Rattle.dec.specs.Promise.{Promise}
use Rattle.dec.specs.Told.{judgement, Readable, answer_at, Finished}

pub room_is : (s : StreamInfo) (o c : ℕ) → roomy s o c ≡ true → (output_places s ≤ o) × (scratch_places s ≤ c)
unfolding roomy
room_is s o c e = let b = and_parts _ _ e in (leb-true _ _ b.0, leb-true _ _ b.1)

module _ {A : Type 0} (w : Width A) (s : StreamInfo) (out : List A) (scr : List ℤ) where
  module _ {u : Unit {0}} (fit : Ok u ≡ judgement w s (length out) (length scr)) where
    passes : (accepted w s ≡ true) × (roomy s (length out) (length scr) ≡ true)
    unfolding judgement
    passes = by (accepted w s) (roomy s (length out) (length scr)) refl refl
      where
        by : (t u : Bool) → accepted w s ≡ t → roomy s (length out) (length scr) ≡ u → (accepted w s ≡ true) × (roomy s (length out) (length scr) ≡ true)
        by true true a b = (a, b)
        by true false a b = let z : ◌≡◌ {A = ℕ} 0 1 = cc (rw (a, b) at fit) in absurd (omega arith)
        by false u a b = let z : ◌≡◌ {A = ℕ} 0 1 = cc (rw a at fit) in absurd (omega arith)

    -- what the parts ask
    pub readable : ((depth : ℕ) → w.takes depth ≡ true → (16 ≤ depth) × (depth ≤ 32)) → Readable s out scr
    readable depths =
        let f = accepted_fields w s passes.0 in
        let d = depths s.bit_depth f.depth in
        let r = room_is s (length out) (length scr) passes.1 in
        record {
          legal = record { frame_le = f.frame_le; depth_ge = d.0; depth_le = d.1; kb_ge = f.kb_ge; kb_le = f.kb_le };
          places = r.0;
          room = r.1;
        }

  module _ (bytes : List ℕ) where
    pub promise_unfit : {x : Refusal} → Err x ≡ judgement w s (length out) (length scr) → Promise w s bytes out out scr scr (Err (record { refusal = x; at = place_of 0 }))
    unfolding judgement decoded answer_of output_after scratch_after
    promise_unfit {x} e = by (accepted w s) (roomy s (length out) (length scr)) refl refl
      where
        by : (t u : Bool) → accepted w s ≡ t → roomy s (length out) (length scr) ≡ u → Promise w s bytes out out scr scr (Err (record { refusal = x; at = place_of 0 }))
        by true true a b = let z : ◌≡◌ {A = ℕ} 0 1 = cc (rw (a, b) at e) in absurd (omega arith)
        by true false a b = let k : x ≡ Room = cc (rw (a, b) at e) in record { answer = rw (a, b, k); output = rw (a, b); room = rw (a, b) }
        by false u a b = let k : x ≡ Stream = cc (rw a at e) in record { answer = rw (a, k); output = rw a; room = rw a }

    module _ {u : Unit {0}} (fit : Ok u ≡ judgement w s (length out) (length scr)) {start is : Cursor} (whole : start.bits ≡ bits_of bytes) {out₁ : List A} {scr₁ : List ℤ} {r : Result ℕ Refusal}
        (h : Finished w s start is out out₁ scr scr₁ r) {scr₂ : List ℤ} (z : scr₂ ≡ cleared (pos 0) (scratch_places s) scr₁) where
      passed : (accepted w s ≡ true) × (roomy s (length out) (length scr) ≡ true)
      passed = passes fit

      pub promise_accepted : {n : ℕ} → r ≡ Ok n → Promise w s bytes out out₁ scr scr₂ (Ok (record { count = n; at = place_of is.at }))
      unfolding decoded answer_of output_after scratch_after answer_at
      promise_accepted {n} k = by (packet start.bits s) refl
        where
          by : (p : Ans Sound) → packet start.bits s ≡ p → Promise w s bytes out out₁ scr scr₂ (Ok (record { count = n; at = place_of is.at }))
          by (got sound i) e = record {
            answer = rw (passed.0, passed.1, ← whole) (rw k at h.answer);
            output = rw (passed.0, passed.1, ← whole) (h.output sound i e);
            room = rw (passed.0, passed.1) (z ∙ h.room);
          }
          by (bad x i) e = let y : ◌≡◌ {A = ℕ} 0 1 = cc (rw (k, e) at h.answer) in absurd (omega arith)

      pub promise_refused : {x : Refusal} {out₂ : List A} → r ≡ Err x → out₂ ≡ cleared w.silence (output_places s) out₁
          → Promise w s bytes out out₂ scr scr₂ (Err (record { refusal = x; at = place_of is.at }))
      unfolding decoded answer_of output_after scratch_after written answer_at
      promise_refused {x} {out₂} k y = by (packet start.bits s) refl
        where
          by : (p : Ans Sound) → packet start.bits s ≡ p → Promise w s bytes out out₂ scr scr₂ (Err (record { refusal = x; at = place_of is.at }))
          by (got sound i) e = let n : ◌≡◌ {A = ℕ} 0 1 = cc (rw (k, e) at h.answer) in absurd (omega arith)
          by (bad x i) e = record {
            answer = rw (passed.0, passed.1, ← whole) (rw k at h.answer);
            output = rw (passed.0, passed.1, ← whole, e) (y ∙ h.silent);
            room = rw (passed.0, passed.1) (z ∙ h.room);
          }
