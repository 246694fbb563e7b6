-- What the parts of the reader tell of the rules, and what they ask.
use Rattle.std.specs.Prelude.{ℕ, ◌+◌, ◌≤◌, ◌≡◌, List, length, ℤ, pos, Result, Ok, Err}
use Rattle.rules.specs.declared.StreamInfo.{StreamInfo}
use Rattle.rules.specs.declared.Refusal.{Refusal}
use Rattle.rules.specs.declared.Refusal.TheVariants.{Stream, Room}
use Rattle.rules.specs.declared.Decoded.{Decoded}
use Rattle.rules.specs.declared.Refused.{Refused}
use Rattle.rules.specs.Answers.{got, pick}
use Rattle.rules.specs.Bits.{place_of}
use Rattle.rules.specs.Stream.{Width, accepted, output_places, scratch_places}
use Rattle.rules.specs.Buffers.{cleared}
use Rattle.rules.specs.Element.{Sound}
use Rattle.rules.specs.Packet.{packet}
use Rattle.stream.specs.Legal.{Legal}
use Rattle.rules.specs.Reader.{roomy, answer_of, written}
use Rattle.bitcursor.specs.Cursor.{Cursor}

-- 2, then 3
unfoldable pub judgement : {A : Type 0} → Width A → StreamInfo → ℕ → ℕ → Result (Unit {0}) Refusal
judgement w s out scratch = pick (accepted w s) (pick (roomy s out scratch) (Ok tt) (Err Room)) (Err Stream)

-- with output and scratch that are long enough
pub record Readable {A : Type 0} (s : StreamInfo) (out : List A) (scratch : List ℤ) : Type 0 where
  pub legal : Legal s
  pub places : output_places s ≤ length out
  pub room : scratch_places s ≤ length scratch

-- w channels from so_far on, of n samples each
pub record Layable {A : Type 0} (s : StreamInfo) (so_far w n : ℕ) (scratch : List ℤ) (out : List A) : Type 0 where
  pub readable : Readable s out scratch
  pub samples_le : n ≤ s.frame_length
  pub some : 1 ≤ w
  pub two : w ≤ 2
  pub channels_le : so_far + w ≤ s.num_channels

-- an answer at its place
unfoldable pub answer_at : ℕ → Result ℕ Refusal → Result Decoded Refused
answer_at p (Ok n) = Ok (record { count = n; at = place_of p })
answer_at p (Err x) = Err (record { refusal = x; at = place_of p })

-- all elements were read: an accepted packet is in the output; what else was changed lies in the places that are cleared after it
pub record Finished {A : Type 0} (w : Width A) (s : StreamInfo) (was is : Cursor) (out out' : List A) (scratch scratch' : List ℤ) (r : Result ℕ Refusal) : Type 0 where
  pub answer : answer_at is.at r ≡ answer_of s (packet was.bits s)
  pub output : (sound : Sound) (p : ℕ) → packet was.bits s ≡ got sound p → out' ≡ written w s (packet was.bits s) out
  pub silent : cleared w.silence (output_places s) out' ≡ cleared w.silence (output_places s) out
  pub room : cleared (pos 0) (scratch_places s) scratch' ≡ cleared (pos 0) (scratch_places s) scratch
