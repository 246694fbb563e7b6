-- Document 01, "What a dock hands us": accepted streams, and how long output and scratch must be.
use Rattle.std.specs.Prelude.{ℕ, ◌+◌, ◌-◌, ◌*◌, ◌/◌, ◌%◌, ◌^◌, Bool, ◌&&◌, ◌||◌, leb, eqb, ℤ, pos}
use Rattle.rules.specs.declared.StreamInfo.{StreamInfo}
use Rattle.rules.specs.Words.{wrap, shift_left}

-- A kind of output, of places A: the depths it takes, what it keeps of a sample of a depth, and silence
pub record Width (A : Type 0) : Type 0 where
  pub takes : ℕ → Bool
  pub keep : ℕ → ℤ → A
  pub silence : A

-- only depth 16 for `i16`, which keeps the low 16 bits
abbrev pub i16_output : Width ℤ
i16_output = record { takes = λ depth. eqb depth 16; keep = λ depth x. wrap 16 x; silence = pos 0 }

-- depth 16, 20, 24 or 32 for `i32`, which shifts left by 32 - depth, wrapping
abbrev pub i32_output : Width ℤ
i32_output = record {
  takes = λ depth. eqb depth 16 || (eqb depth 20 || (eqb depth 24 || eqb depth 32));
  keep = λ depth x. shift_left x (32 - depth);
  silence = pos 0;
}

module _ {A : Type 0} where
  -- frame length 1..4096; the depth; 1..8 channels; kb 1..31. Other fields are not judged
  unfoldable pub accepted : Width A → StreamInfo → Bool
  accepted w s =
      leb 1 s.frame_length && leb s.frame_length 4096 && w.takes s.bit_depth
      && leb 1 s.num_channels && leb s.num_channels 8 && leb 1 s.kb && leb s.kb 31

-- output needs frame length x channels places, scratch 2 x frame length
abbrev pub output_places : StreamInfo → ℕ
output_places s = s.frame_length * s.num_channels

abbrev pub scratch_places : StreamInfo → ℕ
scratch_places s = 2 * s.frame_length

-- `max_samples_per_packet` wraps at 32 bits
abbrev pub max_samples_per_packet : StreamInfo → ℕ
max_samples_per_packet s = s.frame_length * s.num_channels % 2 ^ 32

-- factor f = (pb x pb_factor)/4
abbrev pub factor : StreamInfo → ℕ → ℕ
factor s pbFactor = s.pb * pbFactor / 4

-- b = depth - shift + channels - 1
abbrev pub channel_bits : StreamInfo → ℕ → ℕ → ℕ
channel_bits s shift channels = s.bit_depth - shift + channels - 1
