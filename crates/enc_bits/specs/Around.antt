-- What the functions around the Rice data require.
use Rattle.std.specs.Prelude.{ℕ, ◌^◌, ◌≤◌, ◌<◌}
use Rattle.rules.specs.declared.ChannelSettings.{ChannelSettings}
use Rattle.enc_bits.specs.declared.Sink.{Sink}
use Rattle.enc_bits.specs.Sent.{Ready}

-- the sink is ready, with room to spare
pub record Open (s : Sink) : Type 0 where
  pub ready : Ready s
  pub room : s.at < 2 ^ 40

-- one channel or more, and a mix of a byte each
pub record Heads (s : Sink) (channels mix_bits mix_res : ℕ) : Type 0 where
  pub sink : Open s
  pub some : 1 ≤ channels
  pub few : channels ≤ 8
  pub bits_lt : mix_bits < 256
  pub res_lt : mix_res < 256

-- settings that fit their fields
pub record Params (s : Sink) (c : ChannelSettings) : Type 0 where
  pub sink : Open s
  pub quant_lt : c.quant < 16
  pub factor_lt : c.pb_factor < 8
  pub order_le : c.order ≤ 30

-- the sink behind the fields, and no more coefficients than a channel has
pub record Coefs (s : Sink) (order : ℕ) : Type 0 where
  pub ready : Ready s
  pub room : s.at < 2 ^ 50
  pub order_le : order ≤ 30
