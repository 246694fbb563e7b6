-- What the writer answers: one answer only, and each for its cause.
use Rattle.std.specs.Prelude.{ℕ, ◌≤◌, ◌<◌, ◌≡◌, Bool, List, length, ℤ, Result, Ok, Err}
use Rattle.std.proofs.Math.Path.{refl}
use Rattle.std.proofs.Common.{sym, ◌∙◌}
use Rattle.std.proofs.Math.Bool.{true, false}
use borrow.Author.Tests.{leb-true, leb-false, le-leb, lt-leb}
use Rattle.std.proofs.Math.Dec.{leb}
use Rattle.rules.specs.declared.StreamInfo.{StreamInfo}
use Rattle.rules.specs.declared.PackingSettings.{PackingSettings}
use Rattle.rules.specs.declared.Refusal.{Refusal}
use Rattle.rules.specs.declared.Refusal.TheVariants.{Stream, Room, Settings, Passage, Bytes}
use Rattle.rules.specs.Answers.{pick}
use Rattle.rules.specs.Stream.{i32_output, accepted, scratch_places}
use Rattle.rules.specs.Writer.{in_range, passage_fits, packet_bytes, packed}
use Rattle.enc.specs.Promise.{Promise}

-- any two answers that the promise permits are one: answer, bytes and scratch
pub one_packet : {s : StreamInfo} {t : PackingSettings} {passage : List ℤ} {bytes bytes₁ bytes₂ : List ℕ} {scr scr₁ scr₂ : List ℤ} {r q : Result ℕ Refusal}
    → Promise s t passage bytes bytes₁ scr scr₁ r → Promise s t passage bytes bytes₂ scr scr₂ q → (r ≡ q) × (bytes₁ ≡ bytes₂) × (scr₁ ≡ scr₂)
one_packet f g = (f.answer ∙ sym g.answer, f.output ∙ sym g.output, f.room ∙ sym g.room)

module _ (s : StreamInfo) (t : PackingSettings) (passage : List ℤ) (places scratch : ℕ) where
  -- in order, the causes 2, 3, 19, 20, 21 and 0: a refusal's own test fails, and those before it hold; accepted, all hold
  pub data Cause : Result ℕ Refusal → Type 0 where
    bad_stream : accepted i32_output s ≡ false → Cause (Err Stream)
    short_scratch : accepted i32_output s ≡ true → scratch < scratch_places s → Cause (Err Room)
    bad_settings : accepted i32_output s ≡ true → scratch_places s ≤ scratch → in_range s t ≡ false → Cause (Err Settings)
    bad_passage : accepted i32_output s ≡ true → scratch_places s ≤ scratch → in_range s t ≡ true → passage_fits s t passage ≡ false
        → Cause (Err Passage)
    short_bytes : accepted i32_output s ≡ true → scratch_places s ≤ scratch → in_range s t ≡ true → passage_fits s t passage ≡ true
        → places < length (packet_bytes s t passage) → Cause (Err Bytes)
    all_hold : accepted i32_output s ≡ true → scratch_places s ≤ scratch → in_range s t ≡ true → passage_fits s t passage ≡ true
        → length (packet_bytes s t passage) ≤ places → Cause (Ok (length (packet_bytes s t passage)))

  abbrev size : ℕ
  size = length (packet_bytes s t passage)

  has_cause : Cause (packed s t passage places scratch)
  unfolding packed
  has_cause = by (accepted i32_output s) (leb (scratch_places s) scratch) (in_range s t) (passage_fits s t passage) (leb size places) refl refl refl refl refl
    where
      by : (a b c d e : Bool) → accepted i32_output s ≡ a → leb (scratch_places s) scratch ≡ b → in_range s t ≡ c → passage_fits s t passage ≡ d → leb size places ≡ e
          → Cause (pick a (pick b (pick c (pick d (pick e (Ok size) (Err Bytes)) (Err Passage)) (Err Settings)) (Err Room)) (Err Stream))
      by false b c d e f g h i j = bad_stream f
      by true false c d e f g h i j = short_scratch f (leb-false _ _ g)
      by true true false d e f g h i j = bad_settings f (leb-true _ _ g) h
      by true true true false e f g h i j = bad_passage f (leb-true _ _ g) h i
      by true true true true false f g h i j = short_bytes f (leb-true _ _ g) h i (leb-false _ _ j)
      by true true true true true f g h i j = all_hold f (leb-true _ _ g) h i (leb-true _ _ j)

  of_cause : {q : Result ℕ Refusal} → Cause q → packed s t passage places scratch ≡ q
  unfolding packed
  of_cause (bad_stream f) = rw f
  of_cause (short_scratch f g) = rw (f, lt-leb (scratch_places s) scratch g)
  of_cause (bad_settings f g h) = rw (f, le-leb (scratch_places s) scratch g, h)
  of_cause (bad_passage f g h i) = rw (f, le-leb (scratch_places s) scratch g, h, i)
  of_cause (short_bytes f g h i j) = rw (f, le-leb (scratch_places s) scratch g, h, i, lt-leb size places j)
  of_cause (all_hold f g h i j) = rw (f, le-leb (scratch_places s) scratch g, h, i, le-leb size places j)

module _ {s : StreamInfo} {t : PackingSettings} {passage : List ℤ} {bytes bytes' : List ℕ} {scr scr' : List ℤ} {r : Result ℕ Refusal}
    (promise : Promise s t passage bytes bytes' scr scr' r) where
  -- every answer has its cause, and every cause its answer
  pub refused_when : (q : Result ℕ Refusal) → (r ≡ q → Cause s t passage (length bytes) (length scr) q) × (Cause s t passage (length bytes) (length scr) q → r ≡ q)
  refused_when q = (
    λ e. rw (← promise.answer, e) at (has_cause s t passage (length bytes) (length scr)),
    λ c. promise.answer ∙ of_cause s t passage (length bytes) (length scr) c,
  )

  -- with everything in range, and room, the packet is written
  pub accepts : accepted i32_output s ≡ true → scratch_places s ≤ length scr → in_range s t ≡ true → passage_fits s t passage ≡ true
      → length (packet_bytes s t passage) ≤ length bytes → r ≡ Ok (length (packet_bytes s t passage))
  accepts f g h i j = (refused_when (Ok (length (packet_bytes s t passage)))).1 (all_hold f g h i j)
