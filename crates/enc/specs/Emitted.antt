-- What the parts of the writer ask and promise, from the parameters to the whole packet.
use Rattle.std.specs.Prelude.{ℕ, ◌^◌, ◌≤◌, ◌<◌, ◌≡◌, List, map, length, leb, ℤ, pos, Result, Ok, Err}
use Rattle.rules.specs.declared.StreamInfo.{StreamInfo}
use Rattle.rules.specs.declared.PackingSettings.{PackingSettings}
use Rattle.rules.specs.declared.Refusal.{Refusal}
use Rattle.rules.specs.declared.Refusal.TheVariants.{Bytes}
use Rattle.rules.specs.Answers.{pick}
use Rattle.rules.specs.Stream.{scratch_places}
use Rattle.rules.specs.Buffers.{laid, cleared}
use Rattle.rules.specs.Writer.{settings_used, joined, channel_codes, packet_bytes}
use Rattle.laws.specs.Words.{Every}
use Rattle.laws.specs.Writer.{ChannelTold, Told, Writable}
use Rattle.enc_bits.specs.declared.Sink.{Sink}
use Rattle.enc_bits.specs.Sent.{Ready, Sent}

-- one channel or two, with settings that the writer takes
pub record Paramable (s : StreamInfo) (t : PackingSettings) (out : Sink) : Type 0 where
  pub some : 1 ≤ s.num_channels
  pub two : s.num_channels ≤ 2
  pub settings : Every (ChannelTold s) (settings_used s t)
  pub ready : Ready out
  pub room : out.at < 2 ^ 20

-- a passage that the writer takes, with scratch and a sink
pub record Writing (s : StreamInfo) (t : PackingSettings) (passage : List ℤ) (out : Sink) (scr : List ℤ) : Type 0 where
  pub passes : Told s t passage
  pub places : scratch_places s ≤ length scr
  pub ready : Ready out
  pub room : out.at < 2 ^ 20

-- every channel's bits went out, and scratch is clear
pub record Wrote (s : StreamInfo) (t : PackingSettings) (passage : List ℤ) (was is : List ℕ) (out : Sink) (scr scr' : List ℤ) (r : Sink) : Type 0 where
  pub sent : Sent was is out (joined (map (λ c. c.bits) (channel_codes s t passage))) r
  pub left : scr' ≡ cleared (pos 0) (scratch_places s) scr

-- a passage that the writer takes, with scratch
pub record Emitting (s : StreamInfo) (t : PackingSettings) (passage scr : List ℤ) : Type 0 where
  pub writable : Writable s t passage
  pub places : scratch_places s ≤ length scr

-- as many of the packet's bytes as there are places
pub record Emitted (s : StreamInfo) (t : PackingSettings) (passage : List ℤ) (was is : List ℕ) (scr scr' : List ℤ) (r : ℕ) : Type 0 where
  pub bytes : is ≡ laid (packet_bytes s t passage) was
  pub count : r ≡ length (packet_bytes s t passage)
  pub left : scr' ≡ cleared (pos 0) (scratch_places s) scr

-- the packet, or 21 and no byte touched
pub record Packing (s : StreamInfo) (t : PackingSettings) (passage : List ℤ) (was is : List ℕ) (scr scr' : List ℤ) (r : Result ℕ Refusal) : Type 0 where
  pub answer : r ≡ pick (leb (length (packet_bytes s t passage)) (length was)) (Ok (length (packet_bytes s t passage))) (Err Bytes)
  pub bytes : is ≡ pick (leb (length (packet_bytes s t passage)) (length was)) (laid (packet_bytes s t passage) was) was
  pub left : scr' ≡ cleared (pos 0) (scratch_places s) scr
