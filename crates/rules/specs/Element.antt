-- Document 01, "Element": an audio element of one channel or two, after its tag.
use Rattle.std.specs.Prelude.{ℕ, zero, suc, ◌*◌, ◌^◌, Bool, true, ◌&&◌, ◌||◌, List, [], ◌∷◌, map, reverse, length, take, drop, leb, ltb, eqb, ℤ, pos, ◌+ℤ◌, ◌*ℤ◌}
use Rattle.rules.specs.declared.StreamInfo.{StreamInfo}
use Rattle.rules.specs.declared.Refusal.TheVariants.{Unused, Shift, Partial, WideChannel, NoChannelBits, Parameters, Mode, ShiftedRaw}
use Rattle.rules.specs.Answers.{pick, Read, ◌>>=◌, ◌>>◌, give, times, each, check}
use Rattle.rules.specs.Bits.{num, within, field}
use Rattle.rules.specs.Words.{signed, wrap, is_zero}
use Rattle.rules.specs.Stream.{factor, channel_bits}
use Rattle.rules.specs.Buffers.{lanes, pairs}
use Rattle.rules.specs.Symbol.{symbol}
use Rattle.rules.specs.Rice.{RiceData, rice}
use Rattle.rules.specs.Prediction.{predicted, summed}
use Rattle.rules.specs.Mix.{unmixed}

-- the history and the coefficients of a channel after every sample
pub record Track : Type 0 where
  pub histories : List ℕ
  pub coefs : List (List ℤ)

-- channels of `samples` samples each, with their tracks where they are compressed
pub record Sound : Type 0 where
  pub samples : ℕ
  pub chans : List (List ℤ)
  pub tracks : List Track

-- a channel before unmixing
pub record Channel : Type 0 where
  pub values : List ℤ
  pub track : Track

-- what stands before an element's sound: shift code, uncompressed bit and sample number
pub record Header : Type 0 where
  pub code : ℕ
  pub raw : ℕ
  pub samples : ℕ

-- a channel's parameters; coefficients oldest sample's first, as many as the order
pub record Params : Type 0 where
  pub mode : ℕ
  pub quant : ℕ
  pub factor : ℕ
  pub coefs : List ℤ

-- what stands before a compressed element's Rice data
pub record Plan : Type 0 where
  pub mix_bits : ℕ
  pub mix_res : ℤ
  pub params : List Params

-- cause 11 of a channel: quant 0, order 31, factor above 127
unfoldable pub params_ok : Params → Bool
params_ok c = ltb 0 c.quant && ltb (length c.coefs) 31 && leb c.factor 127

-- cause 11 of a pair: mix_bits above 31 where mix_res is not 0
unfoldable pub mix_ok : ℕ → ℕ → ℤ → Bool
mix_ok channels mix_bits mix_res = eqb channels 1 || is_zero mix_res || leb mix_bits 31

module _ {A : Type 0} where
  unfoldable pub all_of : (A → Bool) → List A → Bool
  all_of ok [] = true
  all_of ok (x ∷ xs) = ok x && all_of ok xs

-- n numbers of w bits each
unfoldable pub numbers : ℕ → ℕ → List ℕ → List ℕ
numbers zero w bits = []
numbers (suc n) w bits = num (take w bits) ∷ numbers n w (drop w bits)

-- shifted left (bits past 32 are lost), and the extra bits taken in
unfoldable pub extended : ℕ → ℤ → ℕ → ℤ
extended shift x extra = wrap 32 (x *ℤ pos (2 ^ shift) +ℤ pos extra)

-- extra bits, where there are any, lie sample by sample, a pair's first channel before its second
unfoldable pub with_extra : ℕ → ℕ → List ℕ → List (List ℤ) → List (List ℤ)
with_extra channels shift extra chans = pick (eqb shift 0) chans (pairs (pairs (extended shift)) chans (lanes channels extra))

-- shift x samples x channels extra bits, passed over at once
unfoldable pub extra_bits : List ℕ → ℕ → ℕ → Read (List ℕ)
extra_bits bits count shift p = within bits (shift * count) (numbers count shift (drop p bits)) p

-- the samples of Rice data: in mode 15 they are summed first
unfoldable pub channel_of : ℕ → Params → RiceData → Channel
channel_of b c d =
    let a = predicted b c.quant [] c.coefs (pick (eqb c.mode 15) (summed b d.residuals) d.residuals) in
    record { values = a.values; track = record { histories = d.histories; coefs = a.coefs } }

-- unmixed, then the extra bits
unfoldable pub assembled : ℕ → ℕ → ℕ → Plan → List ℕ → List Channel → Sound
assembled channels shift n plan extra read = record {
  samples = n;
  chans = with_extra channels shift extra (unmixed plan.mix_bits plan.mix_res (map (λ c. c.values) read));
  tracks = map (λ c. c.track) read;
}

-- depth-bit samples, interleaved
unfoldable pub raw_sound : ℕ → ℕ → ℕ → List ℕ → Sound
raw_sound channels depth n raw = record { samples = n; chans = lanes channels (map (signed depth) raw); tracks = [] }

module _ (bits : List ℕ) (s : StreamInfo) where
  -- if partial, count 32, and 8 right after it; else the frame length
  unfoldable pub sample_number : ℕ → Read ℕ
  sample_number zero = give s.frame_length
  sample_number (suc partial) = do
    n ← field bits 32
    check (leb n s.frame_length) Partial
    give n

  -- mode 4, quant 4, pb_factor 3, order 5, then 16-bit coefficients, newest sample's first
  unfoldable pub params : Read Params
  params = do
    mode ← field bits 4
    quant ← field bits 4
    pbFactor ← field bits 3
    order ← field bits 5
    newestFirst ← times order (field bits 16)
    give (record { mode = mode; quant = quant; factor = factor s pbFactor; coefs = reverse (map (signed 16) newestFirst) })

  -- a channel's Rice data, its history from mb; mode is judged after it
  unfoldable pub channel : ℕ → ℕ → Params → Read Channel
  channel n b c = do
    d ← rice (symbol bits) c.factor s.kb b n 0 s.mb 0
    check (eqb c.mode 0 || eqb c.mode 15) Mode
    give (channel_of b c d)

  -- mix_bits 8, mix_res signed 8, the parameters of each channel; 11 once they are all read
  unfoldable pub planned : ℕ → Read Plan
  planned channels = do
    mix_bits ← field bits 8
    mix_res ← field bits 8
    cs ← times channels params
    check (all_of params_ok cs && mix_ok channels mix_bits (signed 8 mix_res)) Parameters
    give (record { mix_bits = mix_bits; mix_res = signed 8 mix_res; params = cs })

  -- 9 and 10 before any further bit; extra bits; Rice data of each channel
  unfoldable pub compressed : ℕ → ℕ → ℕ → Read Sound
  compressed channels shift n = do
    check (leb (channel_bits s shift channels) 32) WideChannel
    check (ltb 0 (channel_bits s shift channels)) NoChannelBits
    plan ← planned channels
    extra ← extra_bits bits (n * channels) shift
    read ← each plan.params (channel n (channel_bits s shift channels))
    give (assembled channels shift n plan extra read)

  -- 16 before any sample
  unfoldable pub uncompressed : ℕ → ℕ → ℕ → Read Sound
  uncompressed channels code n = do
    check (eqb code 0) ShiftedRaw
    raw ← times (n * channels) (field bits s.bit_depth)
    give (raw_sound channels s.bit_depth n raw)

  -- instance 4, unused 12, partial 1, shift code 2 and 7 before the next bit, uncompressed 1; the sample number
  unfoldable pub header : Read Header
  header = do
    instance ← field bits 4
    unused ← field bits 12
    check (eqb unused 0) Unused
    partial ← field bits 1
    code ← field bits 2
    check (ltb code 3) Shift
    raw ← field bits 1
    n ← sample_number partial
    give (record { code = code; raw = raw; samples = n })

  -- shift = 8 x code
  unfoldable pub audio_element : ℕ → Read Sound
  audio_element channels = do
    h ← header
    pick (eqb h.raw 0) (compressed channels (8 * h.code) h.samples) (uncompressed channels h.code h.samples)
