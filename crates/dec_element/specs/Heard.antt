-- What an element's answer, with the scratch that it leaves, tells of the rules; and what decoding one asks.
use Rattle.std.specs.Prelude.{ℕ, ◌*◌, ◌≤◌, ◌≡◌, List, [], length, ℤ, pos, Result}
use Rattle.rules.specs.declared.StreamInfo.{StreamInfo}
use Rattle.rules.specs.declared.Refusal.{Refusal}
use Rattle.rules.specs.Answers.{Ans, got, bad, answered, Read}
use Rattle.rules.specs.Buffers.{cleared}
use Rattle.rules.specs.Element.{Sound}
use Rattle.bitcursor.specs.Cursor.{Cursor}
use Rattle.bitcursor.specs.Reads.{Reads}
use Rattle.stream.specs.Legal.{Legal}
use Rattle.buffers.specs.Halves.{parts, with_parts}

-- a sound without the histories and coefficients, which no code keeps
unfoldable pub untracked : Sound → Sound
untracked sound = record { samples = sound.samples; chans = sound.chans; tracks = [] }

-- scratch after it: the channels in their halves, or zeros after a refusal; later places stay
unfoldable pub scratch_heard : ℕ → Ans Sound → List ℤ → List ℤ
scratch_heard half (got sound p) was = with_parts half sound.chans was
scratch_heard half (bad x p) was = cleared (pos 0) (2 * half) was

-- the number of samples of each of w channels, which lie in scratch, or why not
pub record Hears (half w : ℕ) (rule : List ℕ → Read Sound) (was is : Cursor) (scratch scratch' : List ℤ) (r : Result ℕ Refusal) : Type 0 where
  pub reads : Reads (λ n. record { samples = n; chans = parts half n w scratch'; tracks = [] }) (λ packet p. answered untracked (rule packet p)) was is r
  pub scratch_is : scratch' ≡ scratch_heard half (rule was.bits was.at) scratch

-- an accepted stream, one channel or two, and scratch that is long enough
pub record Hearable (s : StreamInfo) (w : ℕ) (scratch : List ℤ) : Type 0 where
  pub legal : Legal s
  pub some : 1 ≤ w
  pub two : w ≤ 2
  pub room : 2 * s.frame_length ≤ length scratch
