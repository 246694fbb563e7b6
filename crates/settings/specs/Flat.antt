-- The writer's settings as another language hands them over: mix_bits, mix_res, then 33 places for each channel.
use Rattle.std.specs.Prelude.{ℕ, ◌+◌, ◌*◌, ◌^◌, List, length, get_or, take, drop, replicate, eqb, ℤ, pos}
use Rattle.rules.specs.declared.ChannelSettings.{ChannelSettings}
use Rattle.rules.specs.declared.PackingSettings.{PackingSettings}
use Rattle.rules.specs.Answers.{pick}
use Rattle.rules.specs.Words.{mod_z}

-- a place as 32 bits: a value below zero counts as a large number, so it is out of range
abbrev pub field_at : List ℤ → ℕ → ℕ
field_at places at = mod_z (2 ^ 32) (get_or places at (pos 0))

-- of 33 places: pb_factor, quant, order, and 30 coefficients
unfoldable pub channel_of : List ℤ → ChannelSettings
channel_of places = record {
  pb_factor = field_at places 0;
  quant = field_at places 1;
  order = field_at places 2;
  coefs = take 30 (drop 3 places);
}

-- zero settings: those of a channel that is not there, neither judged nor used
abbrev pub no_channel : ChannelSettings
no_channel = record { pb_factor = 0; quant = 0; order = 0; coefs = replicate 30 (pos 0) }

-- mix_bits 8: out of range whatever the stream
abbrev pub unfit : PackingSettings
unfit = record { mix_bits = 8; mix_res = 0; first = no_channel; second = no_channel }

-- the first channel's places follow mix_bits and mix_res
unfoldable pub with_second : List ℤ → ChannelSettings → PackingSettings
with_second flat second = record {
  mix_bits = field_at flat 0;
  mix_res = field_at flat 1;
  first = channel_of (drop 2 flat);
  second = second;
}

-- another length than 2 + 33 x channels is unfit; so is a stream of no channel or of more than two, which the writer refuses anyway
unfoldable pub settings_of : ℕ → List ℤ → PackingSettings
settings_of channels flat =
    pick (eqb (length flat) (2 + 33 * channels))
    (pick (eqb channels 1) (with_second flat no_channel) (pick (eqb channels 2) (with_second flat (channel_of (drop 35 flat))) unfit))
    unfit
