-- Document 01, "When the dock is told no", for the reader: 2, 3, then causes as the bits are read; and what the buffers become.
use Rattle.std.specs.Prelude.{ℕ, ◌*◌, Bool, ◌&&◌, List, map, length, leb, ℤ, pos, Result, Ok, Err}
use Rattle.rules.specs.declared.StreamInfo.{StreamInfo}
use Rattle.rules.specs.declared.Decoded.{Decoded}
use Rattle.rules.specs.declared.Refused.{Refused}
use Rattle.rules.specs.declared.Refusal.TheVariants.{Stream, Room}
use Rattle.rules.specs.Answers.{Ans, got, bad, pick}
use Rattle.rules.specs.Bits.{bits_of, place_of}
use Rattle.rules.specs.Stream.{Width, accepted, output_places, scratch_places}
use Rattle.rules.specs.Buffers.{laid, cleared, interleaved}
use Rattle.rules.specs.Element.{Sound}
use Rattle.rules.specs.Packet.{packet}

-- output and scratch that are long enough
unfoldable pub roomy : StreamInfo → ℕ → ℕ → Bool
roomy s outputLength scratchLength = leb (output_places s) outputLength && leb (scratch_places s) scratchLength

module _ {A : Type 0} where
  -- 2, 3, then the packet
  unfoldable pub decoded : Width A → StreamInfo → List ℕ → ℕ → ℕ → Ans Sound
  decoded w s bytes outputLength scratchLength =
      pick (accepted w s) (pick (roomy s outputLength scratchLength) (packet (bits_of bytes) s) (bad Room 0)) (bad Stream 0)

-- an accepted read counts samples x channels
unfoldable pub answer_of : StreamInfo → Ans Sound → Result Decoded Refused
answer_of s (got sound p) = Ok (record { count = sound.samples * s.num_channels; at = place_of p })
answer_of s (bad x p) = Err (record { refusal = x; at = place_of p })

module _ {A : Type 0} where
  -- accepted: the first count places are the samples; refused: the first frame length x channels places are silence; later ones stay
  unfoldable pub written : Width A → StreamInfo → Ans Sound → List A → List A
  written w s (got sound p) out = laid (interleaved sound.samples (map (map (w.keep s.bit_depth)) sound.chans)) out
  written w s (bad x p) out = cleared w.silence (output_places s) out

module _ {A : Type 0} (w : Width A) (s : StreamInfo) (out : List A) (scratch : List ℤ) where
  -- past 2 and 3, which change no buffer
  abbrev pub begins : Bool
  begins = accepted w s && roomy s (length out) (length scratch)

  unfoldable pub output_after : List ℕ → List A
  output_after bytes = pick begins (written w s (packet (bits_of bytes) s) out) out

  unfoldable pub scratch_after : List ℤ
  scratch_after = pick begins (cleared (pos 0) (scratch_places s) scratch) scratch
