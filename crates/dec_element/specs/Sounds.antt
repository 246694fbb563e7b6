-- An element's sound in scratch, before a refusal's scratch is cleared, and what its parts ask.
use Rattle.std.specs.Prelude.{ℕ, ◌*◌, ◌≤◌, ◌≡◌, List, [], drop, ℤ, Result, IfOk}
use Rattle.rules.specs.declared.StreamInfo.{StreamInfo}
use Rattle.rules.specs.declared.Refusal.{Refusal}
use Rattle.rules.specs.Answers.{got, bind, answered, Read, each}
use Rattle.rules.specs.Element.{Sound, extra_bits, channel, assembled}
use Rattle.rules.specs.Element as rule
use Rattle.bitcursor.specs.Cursor.{Cursor}
use Rattle.bitcursor.specs.Reads.{Reads}
use Rattle.buffers.specs.Halves.{parts, with_parts}
use Rattle.dec_header.specs.declared.Header.{Header}
use Rattle.dec_header.specs.declared.plan.Plan.{Plan}
use Rattle.dec_header.specs.Header.{SaneHeader}
use Rattle.dec_header.specs.Plan.{AllowedPlan}
use Rattle.dec_element.specs.Heard.{untracked, Hearable}

-- the sound that lies in scratch
abbrev pub here : ℕ → ℕ → ℕ → List ℤ → Sound
here half n w scr = record { samples = n; chans = parts half n w scr; tracks = [] }

-- the number of samples of each of w channels, which came into scratch, where only their own places changed, or why not; a refusal says nothing of the first 2 x half
pub record Sounds (half w : ℕ) (rule : List ℕ → Read Sound) (was is : Cursor) (scratch scratch' : List ℤ) (r : Result ℕ Refusal) : Type 0 where
  pub reads : Reads (λ n. here half n w scratch') (λ packet p. answered untracked (rule packet p)) was is r
  pub laid : IfOk r (λ n. scratch' ≡ with_parts half (parts half n w scratch') scratch)
  pub rest : drop (2 * half) scratch' ≡ drop (2 * half) scratch

-- a compressed element after its plan: extra bits, then the Rice data of each channel
unfoldable pub after_plan : List ℕ → StreamInfo → ℕ → ℕ → ℕ → ℕ → rule.Plan → Read Sound
after_plan packet s w b shift n plan p =
    bind (extra_bits packet (n * w) shift p) (λ extra q. bind (each plan.params (channel packet s n b) q) (λ read t. got (assembled w shift n plan extra read) t))

-- the header was read
pub record Sounding (s : StreamInfo) (w : ℕ) (h : Header) (scratch : List ℤ) : Type 0 where
  pub hearable : Hearable s w scratch
  pub sane : SaneHeader s.frame_length h

-- the plan was read too, and b is a width that is taken
pub record Prepared (s : StreamInfo) (w : ℕ) (h : Header) (b : ℕ) (plan : Plan) (scratch : List ℤ) : Type 0 where
  pub sounding : Sounding s w h scratch
  pub bps_ge : 1 ≤ b
  pub bps_le : b ≤ 32
  pub allowed : AllowedPlan w plan
