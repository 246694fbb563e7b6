-- What writing a channel asks and promises: its samples, their residuals, its bits.
use Rattle.std.specs.Prelude.{ℕ, ◌+◌, ◌^◌, ◌≤◌, ◌<◌, ◌≡◌, List, [], length, get_or, ℤ, pos}
use Rattle.rules.specs.declared.StreamInfo.{StreamInfo}
use Rattle.rules.specs.declared.ChannelSettings.{ChannelSettings}
use Rattle.rules.specs.declared.PackingSettings.{PackingSettings}
use Rattle.rules.specs.Stream.{scratch_places}
use Rattle.rules.specs.Buffers.{cleared}
use Rattle.rules.specs.Writer.{written_bits, channel_code}
use Rattle.laws.specs.Writer.{ChannelTold, Told, samples_of, mixed_lanes}
use Rattle.enc_bits.specs.declared.Sink.{Sink}
use Rattle.enc_bits.specs.Sent.{Ready, Sent}

-- n samples, and room for their residuals
pub record Residing (s : StreamInfo) (c : ChannelSettings) (b n : ℕ) (buf : List ℤ) : Type 0 where
  pub settings : ChannelTold s c
  pub some : 1 ≤ b
  pub most : b ≤ 32
  pub room : length buf ≡ n + n

-- residuals that can be written
pub record Written (s : StreamInfo) (c : ChannelSettings) (b : ℕ) (es : List ℤ) (out : Sink) : Type 0 where
  pub settings : ChannelTold s c
  pub kb_ge : 8 ≤ s.kb
  pub most : b ≤ 32
  pub short : length es ≤ 65536
  pub ready : Ready out
  pub room : out.at < 2 ^ 40

-- channel `which` of the passage, mixed
abbrev pub lane_of : StreamInfo → PackingSettings → List ℤ → ℕ → List ℤ
lane_of s t passage which = get_or (mixed_lanes s t passage) which []

-- a channel of a passage that the writer takes, and room for it and its residuals
pub record Fillable (s : StreamInfo) (t : PackingSettings) (c : ChannelSettings) (which n : ℕ) (passage buf : List ℤ) : Type 0 where
  pub passes : Told s t passage
  pub settings : ChannelTold s c
  pub there : which < s.num_channels
  pub all : n ≡ samples_of s passage
  pub room : length buf ≡ n + n

-- the same, with scratch and a sink
pub record ChannelAsked (s : StreamInfo) (t : PackingSettings) (c : ChannelSettings) (which : ℕ) (passage : List ℤ) (out : Sink) (scr : List ℤ) : Type 0 where
  pub passes : Told s t passage
  pub settings : ChannelTold s c
  pub there : which < s.num_channels
  pub places : scratch_places s ≤ length scr
  pub ready : Ready out
  pub room : out.at < 2 ^ 40

-- its bits went out, and scratch is clear
pub record ChannelSent (s : StreamInfo) (t : PackingSettings) (c : ChannelSettings) (which : ℕ) (passage : List ℤ) (was is : List ℕ) (out : Sink) (scr scr' : List ℤ) (r : Sink) : Type 0 where
  pub sent : Sent was is out (channel_code s (written_bits s t) c (lane_of s t passage which)).bits r
  pub left : scr' ≡ cleared (pos 0) (scratch_places s) scr
