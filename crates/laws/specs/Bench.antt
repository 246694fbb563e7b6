-- Document 01, "Readings taken at the bench": the bold cases, worked out from the rules, as one table under one claim.
use Rattle.std.specs.Prelude.{◌≡◌, refl, List, [], ◌∷◌, map, ℕ, replicate, ℤ, pos, negsuc, Result, Ok, Err}
use Rattle.std.specs.Int.Count.{count_leading_zeros}
use Rattle.rules.specs.declared.StreamInfo.{StreamInfo}
use Rattle.rules.specs.declared.ChannelSettings.{ChannelSettings}
use Rattle.rules.specs.declared.PackingSettings.{PackingSettings}
use Rattle.rules.specs.declared.Decoded.{Decoded}
use Rattle.rules.specs.declared.Refused.{Refused}
use Rattle.rules.specs.declared.Refusal.{Refusal}
use Rattle.rules.specs.declared.Refusal.TheVariants.{Run}
use Rattle.rules.specs.Answers.{bind, times, each}
use Rattle.rules.specs.Bits.{digits, num, bits_of, bytes_of, padded, within, place_of}
use Rattle.rules.specs.Words.{mod_z, signed, wrap, sign, unfolded, folded, log2}
use Rattle.rules.specs.Stream.{i16_output, accepted}
use Rattle.rules.specs.Buffers.{laid, heads, tails, interleaved, every, up_to, pairs}
use Rattle.rules.specs.Symbol.{ones, rest, symbol}
use Rattle.rules.specs.Rice.{symbol_k, run_k, run_m, history_after, run_at, after_value, sample, rice}
use Rattle.rules.specs.Prediction.{weighed, guess, error_left, adapted, mean_of, window, forecast, next, coefs_after, predicted, summed, summed_from}
use Rattle.rules.specs.Mix.{share, mid_of, on_pair, unmixed, mixed}
use Rattle.rules.specs.Element.{params_ok, mix_ok, all_of, numbers, extended, with_extra, extra_bits, channel_of, assembled, raw_sound, sample_number, params, channel, planned, compressed, uncompressed, header, audio_element}
use Rattle.rules.specs.Packet.{agrees, followed, sound_element, end_element, tagged, turn, onward, run, packet}
use Rattle.rules.specs.Reader.{roomy, decoded, answer_of, written, output_after}
use Rattle.rules.specs.Writer.{rest_bits, symbol_bits, zeros, rice_code, residual, residuals, channel_in_range, mix_in_range, in_range, passage_fits, joined, param_bits, count_bits, head_bits, channel_code, channel_codes, packet_bits, packet_bytes, packed, bytes_after}

-- mono, frame 2, depth 16; pb 40, mb 10, kb 14
stream : StreamInfo
stream = record {
  frame_length = 2;
  compatible_version = 0;
  bit_depth = 16;
  pb = 40;
  mb = 10;
  kb = 14;
  num_channels = 1;
  max_run = 255;
  max_frame_bytes = 0;
  avg_bit_rate = 0;
  sample_rate = 44100;
}

-- factor 4, quant 9, order 0
settings : PackingSettings
settings =
    let one : ChannelSettings = record { pb_factor = 4; quant = 9; order = 0; coefs = replicate 30 (pos 0) } in
    record { mix_bits = 0; mix_res = 0; first = one; second = one }

-- `00 00 00 00 00 13 01`, and a last byte or two
packet_of : List ℕ → List ℕ
packet_of last = 0 ∷ 0 ∷ 0 ∷ 0 ∷ 0 ∷ 0x13 ∷ 0x01 ∷ last

-- the reader's answer and its output of two places
heard : List ℕ → Result Decoded Refused × List ℤ
heard bytes =
    (answer_of stream (decoded i16_output stream bytes 2 4), output_after i16_output stream (pos 7 ∷ pos 7 ∷ []) (replicate 4 (pos 7)) bytes)

-- the writer's answer and its nine lent bytes
told : List ℤ → Result ℕ Refusal × List ℕ
told passage = (packed stream settings passage 9 4, bytes_after stream settings passage (replicate 9 0xAA) 4)

bench : (map run_k (0 ∷ 1 ∷ 31 ∷ 32 ∷ 47 ∷ 48 ∷ 111 ∷ 112 ∷ 127 ∷ []) ≡ 8 ∷ 7 ∷ 3 ∷ 2 ∷ 2 ∷ 3 ∷ 2 ∷ 3 ∷ 3 ∷ [])
    × (map (symbol_k 31) (511 ∷ 512 ∷ 2560 ∷ []) ≡ 1 ∷ 2 ∷ 3 ∷ [])
    × (mixed 2 (pos 1) ((pos 5 ∷ negsuc 1 ∷ []) ∷ (negsuc 1 ∷ pos 5 ∷ []) ∷ []) ≡ (negsuc 0 ∷ pos 3 ∷ []) ∷ (pos 7 ∷ negsuc 6 ∷ []) ∷ [])
    × (heard (0 ∷ 0 ∷ 2 ∷ 0 ∷ 3 ∷ 0xFF ∷ 0xFF ∷ 0xC0 ∷ []) ≡ (Ok (record { count = 2; at = place_of 64 }), pos 1 ∷ negsuc 0 ∷ []))
    × (heard (packet_of (0x97 ∷ [])) ≡ (Ok (record { count = 2; at = place_of 64 }), pos 1 ∷ pos 1 ∷ []))
    × (heard (packet_of (0x8B ∷ 0x80 ∷ [])) ≡ (Ok (record { count = 2; at = place_of 72 }), pos 1 ∷ pos 2 ∷ []))
    × (heard (packet_of (0x9F ∷ [])) ≡ (Err (record { refusal = Run; at = place_of 61 }), pos 0 ∷ pos 0 ∷ []))
    × (told (pos 1 ∷ pos 1 ∷ []) ≡ (Ok 8, packet_of (0x97 ∷ 0xAA ∷ [])))
    × (told (pos 1 ∷ pos 2 ∷ []) ≡ (Ok 9, packet_of (0x8B ∷ 0x80 ∷ [])))
unfolding stream settings packet_of heard told
    run_k symbol_k log2 count_leading_zeros mixed on_pair pairs mid_of share wrap signed mod_z
    decoded accepted roomy answer_of output_after written laid interleaved heads tails every up_to
    digits num bits_of bytes_of padded within bind times each
    packet run turn tagged sound_element end_element onward agrees followed
    audio_element header sample_number uncompressed compressed planned params params_ok mix_ok all_of extra_bits numbers channel channel_of assembled raw_sound
    with_extra extended unmixed symbol ones rest rice sample after_value history_after run_at run_m unfolded folded sign
    predicted next forecast guess weighed mean_of window coefs_after adapted error_left summed summed_from
    packed in_range channel_in_range mix_in_range passage_fits bytes_after packet_bytes packet_bits head_bits count_bits param_bits joined
    channel_codes channel_code residuals residual rice_code zeros symbol_bits rest_bits
bench = (refl, refl, refl, refl, refl, refl, refl, refl, refl)
