-- What an element's answer, with the scratch that it leaves, tells of the rules; and what it asks.
use Rattle.std.specs.Prelude.{ℕ, ◌+◌, ◌*◌, ◌≤◌, ◌≡◌, List, [], length, drop, ℤ, pos, Result, IfOk}
use Rattle.rules.specs.declared.StreamInfo.{StreamInfo}
use Rattle.rules.specs.declared.Refusal.{Refusal}
use Rattle.rules.specs.Answers.{Ans, got, bad, answered, Read}
use Rattle.rules.specs.Buffers.{cleared}
use Rattle.rules.specs.Packet.{Turn, audio, passed, end}
use Rattle.bitcursor.specs.Cursor.{Cursor}
use Rattle.bitcursor.specs.Reads.{Reads}
use Rattle.stream.specs.Legal.{Legal}
use Rattle.buffers.specs.Halves.{parts, with_parts}
use Rattle.dec_element.specs.Heard.{untracked}
use Rattle.dec_packet.specs.declared.State.{State}
use Rattle.dec_packet.specs.declared.Element.{Element}
use Rattle.dec_packet.specs.declared.Element.TheVariants.{Audio, Passed, End}

-- a turn without the histories and coefficients
unfoldable pub untracked_turn : Turn → Turn
untracked_turn (audio sound) = audio (untracked sound)
untracked_turn passed = passed
untracked_turn (end n) = end n

-- an element as the rules have it; its channels lie in scratch
unfoldable pub turn_of : ℕ → List ℤ → Element → Turn
turn_of half scr (Audio w n) = audio (record { samples = n; chans = parts half n w scr; tracks = [] })
turn_of half scr Passed = passed
turn_of half scr (End n) = end n

-- one channel or two that the stream still has, of at most a frame
unfoldable pub Sane : StreamInfo → ℕ → Element → Type 0
Sane s so_far (Audio w n) = (n ≤ s.frame_length) × (1 ≤ w) × (w ≤ 2) × (so_far + w ≤ s.num_channels)
Sane s so_far Passed = Unit {0}
Sane s so_far (End n) = Unit {0}

-- scratch after it: the channels in their halves, or zeros after a refusal; later places stay
unfoldable pub scratch_turned : ℕ → Ans Turn → List ℤ → List ℤ
scratch_turned half (got (audio sound) p) was = with_parts half sound.chans was
scratch_turned half (got passed p) was = was
scratch_turned half (got (end n) p) was = was
scratch_turned half (bad x p) was = cleared (pos 0) (2 * half) was

-- the rules' turn was read, after `so_far` channels
pub record Turns (s : StreamInfo) (so_far : ℕ) (rule : List ℕ → Read Turn) (was is : Cursor) (scratch scratch' : List ℤ) (r : Result Element Refusal) : Type 0 where
  pub reads : Reads (turn_of s.frame_length scratch') (λ packet p. answered untracked_turn (rule packet p)) was is r
  pub sane : IfOk r (Sane s so_far)
  pub scratch_is : scratch' ≡ scratch_turned s.frame_length (rule was.bits was.at) scratch

-- an accepted stream, scratch that is long enough, and no more channels than the stream has
pub record Turnable (s : StreamInfo) (st : State) (scratch : List ℤ) : Type 0 where
  pub legal : Legal s
  pub channels_le : st.channels ≤ s.num_channels
  pub room : 2 * s.frame_length ≤ length scratch

-- the same before a refusal's scratch is cleared: only its first 2 x half places may have changed
unfoldable pub Kept : ℕ → Ans Turn → List ℤ → List ℤ → Type 0
Kept half (got t p) was is = is ≡ scratch_turned half (got t p) was
Kept half (bad x p) was is = (length is ≡ length was) × (drop (2 * half) is ≡ drop (2 * half) was)

pub record Turning (s : StreamInfo) (so_far : ℕ) (rule : List ℕ → Read Turn) (was is : Cursor) (scratch scratch' : List ℤ) (r : Result Element Refusal) : Type 0 where
  pub reads : Reads (turn_of s.frame_length scratch') (λ packet p. answered untracked_turn (rule packet p)) was is r
  pub sane : IfOk r (Sane s so_far)
  pub kept : Kept s.frame_length (rule was.bits was.at) scratch scratch'

-- an element of one channel or two
pub record Sounding (s : StreamInfo) (st : State) (w : ℕ) (scratch : List ℤ) : Type 0 where
  pub can : Turnable s st scratch
  pub some : 1 ≤ w
  pub two : w ≤ 2
