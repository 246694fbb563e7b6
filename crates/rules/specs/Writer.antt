-- Document 01, "The added writer": its ranges, the one packet that the rules name, its refusals, and what the buffers become.
use Rattle.std.specs.Prelude.{ℕ, zero, suc, ◌+◌, ◌-◌, ◌*◌, ◌/◌, ◌%◌, ◌^◌, min, Bool, ◌&&◌, ◌||◌, List, [], ◌∷◌, ◌++◌, map, reverse, length, take, replicate, leb, ltb, eqb, ℤ, pos, Result, Ok, Err}
use Rattle.rules.specs.declared.StreamInfo.{StreamInfo}
use Rattle.rules.specs.declared.ChannelSettings.{ChannelSettings}
use Rattle.rules.specs.declared.PackingSettings.{PackingSettings}
use Rattle.rules.specs.declared.Refusal.{Refusal}
use Rattle.rules.specs.declared.Refusal.TheVariants.{Stream, Room, Settings, Passage, Bytes}
use Rattle.rules.specs.Answers.{pick}
use Rattle.rules.specs.Bits.{digits, padded}
use Rattle.rules.specs.Words.{mod_z, wrap, sub32, is_zero, folded}
use Rattle.rules.specs.Stream.{i32_output, accepted, scratch_places, factor, channel_bits}
use Rattle.rules.specs.Buffers.{laid, cleared, lanes, pairs}
use Rattle.rules.specs.Rice.{symbol_k, symbol_m, run_k, run_m, history_after, run_follows}
use Rattle.rules.specs.Prediction.{Adapted, before, forecast, coefs_after}
use Rattle.rules.specs.Mix.{mixed}
use Rattle.rules.specs.Element.{Track, all_of}

-- ---- the symbol and the Rice data

-- r after q ones and a zero: nothing with k = 1, k-1 zeros for 0, else r+1 in k bits
unfoldable pub rest_bits : ℕ → ℕ → List ℕ
rest_bits k r = pick (eqb k 1) [] (pick (eqb r 0) (replicate (k - 1) 0) (digits k (r + 1)))

-- escape only when value / m is 9 or more
unfoldable pub symbol_bits : ℕ → ℕ → ℕ → ℕ → List ℕ
symbol_bits k m b v = pick (ltb (v / m) 9) (replicate (v / m) 1 ++ 0 ∷ rest_bits k (v % m)) (replicate 9 1 ++ digits b v)

-- runs are as long as the zeros go
unfoldable pub zeros : List ℤ → ℕ
zeros [] = 0
zeros (e ∷ es) = pick (is_zero e) (suc (zeros es)) 0

-- a run of z zeros
abbrev pub run_bits : ℕ → ℕ → ℕ → List ℕ
run_bits kb h z = symbol_bits (run_k h) (run_m kb (run_k h)) 16 z

pub record RiceCode : Type 0 where
  pub bits : List ℕ
  pub histories : List ℕ

-- the bits of residuals, and the history after each; a run sets h to 0, and the next symbol has 1 less
unfoldable pub rice_code : ℕ → ℕ → ℕ → List ℤ → ℕ → ℕ → ℕ → RiceCode
rice_code f kb b [] owed h plus = record { bits = []; histories = [] }
rice_code f kb b (e ∷ es) (suc owed) h plus =
    let rest = rice_code f kb b es owed 0 1 in
    record { bits = rest.bits; histories = 0 ∷ rest.histories }
rice_code f kb b (e ∷ es) zero h plus =
    let h' = history_after f h (folded e) in
    let run = run_follows h' (length es) in
    let rest = rice_code f kb b es (pick run (zeros es) 0) (pick run 0 h') (pick run 1 0) in
    record {
      bits = symbol_bits (symbol_k kb h) (symbol_m (symbol_k kb h)) b (folded e - plus) ++ (pick run (run_bits kb h' (zeros es)) [] ++ rest.bits);
      histories = pick run 0 h' ∷ rest.histories;
    }

-- ---- the residuals

-- the residual that the reader's prediction undoes, in b bits
unfoldable pub residual : ℕ → ℕ → List ℤ → List ℤ → ℤ → ℤ
residual b quant past cs x = pick (eqb (length past) 0) x (wrap b (sub32 x (forecast quant past cs)))

-- of all samples, with the coefficients after each
unfoldable pub residuals : ℕ → ℕ → List ℤ → List ℤ → List ℤ → Adapted
residuals b quant past cs [] = record { values = []; coefs = [] }
residuals b quant past cs (x ∷ xs) =
    let e = residual b quant past cs x in
    let cs' = coefs_after quant past cs e in
    before e cs' (residuals b quant (past ++ (x ∷ [])) cs' xs)

-- ---- ranges

-- pb_factor 0..7, f <= 127, quant 1..15, order 0..30, any coefficients
unfoldable pub channel_in_range : StreamInfo → ChannelSettings → Bool
channel_in_range s c =
    leb c.pb_factor 7 && leb (factor s c.pb_factor) 127 && leb 1 c.quant && leb c.quant 15 && leb c.order 30

-- mix_bits 0..7, 0 <= mix_res <= min(127, 2^mix_bits); both 0 for mono
unfoldable pub mix_in_range : ℕ → ℕ → ℕ → Bool
mix_in_range channels mix_bits mix_res =
    leb mix_bits 7 && leb mix_res (min 127 (2 ^ mix_bits)) && (eqb channels 2 || (eqb mix_bits 0 && eqb mix_res 0))

module _ (s : StreamInfo) (t : PackingSettings) where
  -- settings of a channel that isn't there are not judged and not used
  abbrev pub settings_used : List ChannelSettings
  settings_used = take s.num_channels (t.first ∷ t.second ∷ [])

  -- depth 16, one or two channels, kb 8..31, and the settings
  unfoldable pub in_range : Bool
  in_range =
      eqb s.bit_depth 16 && leb s.num_channels 2 && leb 8 s.kb && leb s.kb 31
      && all_of (channel_in_range s) settings_used && mix_in_range s.num_channels t.mix_bits t.mix_res

  -- at most one frame, and a multiple of channels
  unfoldable pub passage_fits : List ℤ → Bool
  passage_fits passage = leb (length passage) (s.frame_length * s.num_channels) && eqb (length passage % s.num_channels) 0

  -- ---- the packet

  -- shift 0
  abbrev pub written_bits : ℕ
  written_bits = channel_bits s 0 s.num_channels

-- coefficients past the order are not used
abbrev pub coefs_used : ChannelSettings → List ℤ
coefs_used c = take c.order c.coefs

-- one after the other
unfoldable pub joined : List (List ℕ) → List ℕ
joined [] = []
joined (w ∷ ws) = w ++ joined ws

-- mode 0, quant, pb_factor, order, coefficients, newest sample's first
unfoldable pub param_bits : ChannelSettings → List ℕ
param_bits c =
    digits 4 0 ++ (digits 4 c.quant ++ (digits 3 c.pb_factor ++ (digits 5 c.order
    ++ joined (map (λ x. digits 16 (mod_z (2 ^ 16) x)) (coefs_used c)))))

-- one SCE or CPE, instance 0, partial only if shorter than the frame, shift 0, compressed, the count, mix_bits, mix_res
unfoldable pub count_bits : ℕ → ℕ → List ℕ
count_bits n frame = pick (ltb n frame) (digits 32 n) []

unfoldable pub head_bits : ℕ → ℕ → ℕ → ℕ → ℕ → List ℕ
head_bits channels n frame mix_bits mix_res =
    digits 3 (channels - 1) ++ (digits 4 0 ++ (digits 12 0 ++ (digits 1 (pick (ltb n frame) 1 0) ++ (digits 2 0 ++ (digits 1 0
    ++ (count_bits n frame ++ (digits 8 mix_bits ++ digits 8 mix_res)))))))

-- at most 74 + c x (16 + 16 x order + 51 x n) bits before padding, with each channel's own order
unfoldable pub bit_limit : ℕ → List ChannelSettings → ℕ
bit_limit n [] = 74
bit_limit n (c ∷ cs) = 16 + 16 * c.order + 51 * n + bit_limit n cs

-- a channel's bits, and its history and coefficients after every sample
pub record ChannelCode : Type 0 where
  pub bits : List ℕ
  pub track : Track

module _ (s : StreamInfo) (b : ℕ) where
  unfoldable pub channel_code : ChannelSettings → List ℤ → ChannelCode
  channel_code c xs =
      let a = residuals b c.quant [] (reverse (coefs_used c)) xs in
      let r = rice_code (factor s c.pb_factor) s.kb b a.values 0 s.mb 0 in
      record { bits = r.bits; track = record { histories = r.histories; coefs = a.coefs } }

module _ (s : StreamInfo) (t : PackingSettings) (passage : List ℤ) where
  -- the passage's channels, mixed, each with its settings
  unfoldable pub channel_codes : List ChannelCode
  channel_codes =
      pairs (channel_code s (written_bits s t)) (settings_used s t)
      (mixed t.mix_bits (pos t.mix_res) (lanes s.num_channels passage))

  -- the element and END
  unfoldable pub packet_bits : List ℕ
  packet_bits =
      head_bits s.num_channels (length passage / s.num_channels) s.frame_length t.mix_bits t.mix_res
      ++ (joined (map param_bits (settings_used s t)) ++ (joined (map (λ c. c.bits) channel_codes) ++ digits 3 7))

  -- zero bits to the byte edge
  unfoldable pub packet_bytes : List ℕ
  packet_bytes = padded packet_bits

  -- ---- refusals in order: 2, a stream no reader would accept; 3, scratch only; 19; 20; 21
  unfoldable pub packed : ℕ → ℕ → Result ℕ Refusal
  packed bytesLength scratchLength =
      pick (accepted i32_output s) (pick (leb (scratch_places s) scratchLength) (pick (in_range s t) (pick (passage_fits s t passage)
      (pick (leb (length packet_bytes) bytesLength) (Ok (length packet_bytes)) (Err Bytes))
      (Err Passage)) (Err Settings)) (Err Room)) (Err Stream)

  -- bytes are touched only on acceptance, and then only the packet's own
  unfoldable pub bytes_after : List ℕ → ℕ → List ℕ
  bytes_after bytes scratchLength = kept (packed (length bytes) scratchLength)
    where
      kept : Result ℕ Refusal → List ℕ
      kept (Ok n) = laid packet_bytes bytes
      kept (Err x) = bytes

  -- past 3 the first 2 x frame length places end as zero; 2 and 3 change nothing
  unfoldable pub pack_scratch_after : List ℤ → List ℤ
  pack_scratch_after scratch =
      pick (accepted i32_output s && leb (scratch_places s) (length scratch)) (cleared (pos 0) (scratch_places s) scratch) scratch
