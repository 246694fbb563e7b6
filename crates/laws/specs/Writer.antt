-- Document 01, "The added writer": what its tests say, that the packet is made of bits, and that it is no longer than the limit.
use Prim.Native.Nat.{ℕ, zero, suc, ◌+◌, ◌-◌, ◌*◌, ◌/◌, ◌%◌, ◌^◌, ◌≤◌, ◌<◌, min, max}
use Rattle.std.specs.Prelude.{◌≡◌, ◌&&◌, ◌||◌, ltb, take, pos}
use Rattle.std.proofs.Math.Path.{refl}
use Rattle.std.proofs.Common.{◌∙◌}
use Rattle.std.proofs.Math.Bool.{Bool, true, false}
use mathlib.Core.List.{List, [], ◌∷◌, ◌++◌, map, reverse}
use Rattle.std.proofs.Math.Nat.{mul_comm, mul-le-mul, div-add-mod', div-le_of_le-mul}
use native.Mathlib.Omega.{arith}
use borrow.Author.Tests.{leb-true, eqb-true}
use Rattle.std.proofs.Math.Dec.{leb, eqb}
use Rattle.std.proofs.Math.ListN.{length, length-append, length-take}
use Rattle.std.proofs.Math.Seq.{length-take-le}
use Rattle.std.proofs.Math.IntN.{ℤ}
use Rattle.rules.specs.declared.StreamInfo.{StreamInfo}
use Rattle.rules.specs.declared.ChannelSettings.{ChannelSettings}
use Rattle.rules.specs.declared.PackingSettings.{PackingSettings}
use Rattle.rules.specs.Answers.{pick}
use Rattle.rules.specs.Bits.{digits}
use Rattle.rules.specs.Words.{mod_z, sub32, is_zero}
use Rattle.rules.specs.Stream.{i32_output, accepted, factor}
use Rattle.rules.specs.Buffers.{lanes, pairs}
use Rattle.rules.specs.Mix.{mid_of, on_pair, mixed}
use Rattle.rules.specs.Prediction.{Adapted}
use Rattle.rules.specs.Element.{all_of}
use Rattle.rules.specs.Writer.{residuals, channel_in_range, mix_in_range, settings_used, in_range, passage_fits, written_bits, coefs_used, joined, param_bits, count_bits, head_bits, bit_limit, channel_code, channel_codes, packet_bits, packet_bytes}
use Rattle.laws.specs.Bits.{length_digits, length-padded, Bin, bin_append, bin_digits}
use Rattle.laws.specs.Words.{Every, none, one, AllIn}
use Rattle.laws.specs.Buffers.{pairs-length, lanes_count, lanes-length, every-lane}
use Rattle.laws.specs.Tests.{and_parts, chain_passed, accepted_fields}
use Rattle.laws.specs.Prediction.{residuals-length}
use Rattle.laws.specs.Mix.{mixed_in}
use Rattle.laws.specs.Length.{rice-length, bin_rice}

-- ---- what is given

-- a passage that the writer's tests let through
pub record Writable (s : StreamInfo) (t : PackingSettings) (passage : List ℤ) : Type 0 where
  pub mb_byte : s.mb < 256
  pub reader : accepted i32_output s ≡ true
  pub ranges : in_range s t ≡ true
  pub fits : passage_fits s t passage ≡ true

-- what the fields' types say: thirty coefficients of 16 bits, a byte
pub record HeldChannel (c : ChannelSettings) : Type 0 where
  pub thirty : length c.coefs ≡ 30
  pub words : AllIn 16 c.coefs

pub record Held (s : StreamInfo) (t : PackingSettings) : Type 0 where
  pub mb_byte : s.mb < 256
  pub one : HeldChannel t.first
  pub two : HeldChannel t.second

-- ---- what the tests say

-- of a channel that is there
pub record ChannelTold (s : StreamInfo) (c : ChannelSettings) : Type 0 where
  pub pb_factor_le : c.pb_factor ≤ 7
  pub factor_le : factor s c.pb_factor ≤ 127
  pub quant_ge : 1 ≤ c.quant
  pub quant_le : c.quant ≤ 15
  pub order_le : c.order ≤ 30

-- how many samples each channel has
abbrev pub samples_of : StreamInfo → List ℤ → ℕ
samples_of s passage = length passage / s.num_channels

-- of all that is given
pub record Told (s : StreamInfo) (t : PackingSettings) (passage : List ℤ) : Type 0 where
  pub mb_lt : s.mb < 256
  pub depth : s.bit_depth ≡ 16
  pub channels_ge : 1 ≤ s.num_channels
  pub channels_le : s.num_channels ≤ 2
  pub kb_ge : 8 ≤ s.kb
  pub kb_le : s.kb ≤ 31
  pub frame_le : s.frame_length ≤ 4096
  pub used : length (settings_used s t) ≡ s.num_channels
  pub channels_in : Every (ChannelTold s) (settings_used s t)
  pub mix_bits_le : t.mix_bits ≤ 7
  pub mix_res_le : t.mix_res ≤ 127
  pub mix_res_low : t.mix_res ≤ 2 ^ t.mix_bits
  pub rows : length passage ≡ samples_of s passage * s.num_channels
  pub rows_le : samples_of s passage ≤ s.frame_length

-- of a channel that is there, with what its type says
pub record ChannelFits (s : StreamInfo) (c : ChannelSettings) : Type 0 where
  pub told : ChannelTold s c
  pub coefs_used_lem : length (coefs_used c) ≡ c.order
  pub coefs_in : AllIn 16 (coefs_used c)

module _ {A : Type 0} where
  every_take : {P : A → Type 0} (n : ℕ) {xs : List A} → Every P xs → Every P (take n xs)
  every_take zero ps = none
  every_take (suc n) none = none
  every_take (suc n) (one p ps) = one p (every_take n ps)

  every_both : {P Q R : A → Type 0} {xs : List A} → ((x : A) → P x → Q x → R x) → Every P xs → Every Q xs → Every R xs
  every_both f none none = none
  every_both f (one {x = x} p ps) (one q qs) = one (f x p q) (every_both f ps qs)

  each_of_all : {Q : A → Type 0} (ok : A → Bool) → ((x : A) → ok x ≡ true → Q x) → (xs : List A) → all_of ok xs ≡ true → Every Q xs
  unfolding all_of
  each_of_all ok f [] e = none
  each_of_all ok f (x ∷ xs) e =
      let p = and_parts (ok x) (all_of ok xs) e in
      one (f x p.0) (each_of_all ok f xs p.1)

module _ (s : StreamInfo) where
  channel-told : (c : ChannelSettings) → channel_in_range s c ≡ true → ChannelTold s c
  unfolding channel_in_range
  channel-told c e =
      let p = chain_passed (leb c.pb_factor 7) (leb (factor s c.pb_factor) 127 ∷ leb 1 c.quant ∷ leb c.quant 15 ∷ leb c.order 30 ∷ []) e in
      record {
        pb_factor_le = leb-true c.pb_factor 7 p.0;
        factor_le = leb-true (factor s c.pb_factor) 127 p.1.0;
        quant_ge = leb-true 1 c.quant p.1.1.0;
        quant_le = leb-true c.quant 15 p.1.1.1.0;
        order_le = leb-true c.order 30 p.1.1.1.1.0;
      }

  module _ (t : PackingSettings) (passage : List ℤ) where
    pub told : Writable s t passage → Told s t passage
    unfolding in_range mix_in_range passage_fits
    told w =
        let frame : ℕ = s.frame_length in
        let depth : ℕ = s.bit_depth in
        let channels : ℕ = s.num_channels in
        let mix_bits : ℕ = t.mix_bits in
        let mix_res : ℕ = t.mix_res in
        let all : Bool = all_of (channel_in_range s) (settings_used s t) in
        let mix : Bool = eqb channels 2 || (eqb mix_bits 0 && eqb mix_res 0) in
        let a = accepted_fields i32_output s w.reader in
        let r = chain_passed (eqb depth 16) (leb channels 2 ∷ leb 8 s.kb ∷ leb s.kb 31 ∷ all ∷ mix_in_range channels mix_bits mix_res ∷ []) w.ranges in
        let m = chain_passed (leb mix_bits 7) (leb mix_res (min 127 (2 ^ mix_bits)) ∷ mix ∷ []) r.1.1.1.1.1.0 in
        let p = chain_passed (leb (length passage) (frame * channels)) (eqb (length passage % channels) 0 ∷ []) w.fits in
        let two : channels ≤ 2 = leb-true channels 2 r.1.0 in
        let low : mix_res ≤ min 127 (2 ^ mix_bits) = leb-true mix_res (min 127 (2 ^ mix_bits)) m.1.0 in
        record {
          mb_lt = w.mb_byte;
          depth = eqb-true depth 16 r.0;
          channels_ge = a.channels_ge;
          channels_le = two;
          kb_ge = leb-true 8 s.kb r.1.1.0;
          kb_le = leb-true s.kb 31 r.1.1.1.0;
          frame_le = a.frame_le;
          used = length-take-le channels (t.first ∷ t.second ∷ []) two;
          channels_in = each_of_all (channel_in_range s) channel-told (settings_used s t) r.1.1.1.1.0;
          mix_bits_le = leb-true mix_bits 7 m.0;
          mix_res_le = omega arith;
          mix_res_low = omega arith;
          rows = omega (arith, div-add-mod' (length passage) channels, eqb-true (length passage % channels) 0 p.1.0);
          rows_le = div-le_of_le-mul channels (omega (arith, leb-true (length passage) (frame * channels) p.0, mul_comm frame channels));
        }

    pub channels_fit : Told s t passage → Held s t → Every (ChannelFits s) (settings_used s t)
    channels_fit f h = every_both fit f.channels_in (every_take s.num_channels (one h.one (one h.two none)))
      where
        fit : (c : ChannelSettings) → ChannelTold s c → HeldChannel c → ChannelFits s c
        fit c k g = record { told = k; coefs_used_lem = length-take-le c.order c.coefs (omega (arith, k.order_le, g.thirty)); coefs_in = every_take c.order g.words }

-- ---- the mixed channels

module _ (mix_bits : ℕ) (mix_res : ℤ) where
  mixed_count : (chans : List (List ℤ)) → length (mixed mix_bits mix_res chans) ≡ length chans
  unfolding mixed on_pair
  mixed_count = go (is_zero mix_res)
    where
      go : (z : Bool) (chans : List (List ℤ)) → length (pick z chans (on_pair (mid_of mix_bits mix_res) sub32 chans)) ≡ length chans
      go true chans = refl
      go false [] = refl
      go false (us ∷ []) = refl
      go false (us ∷ vs ∷ []) = refl
      go false (us ∷ vs ∷ ws ∷ more) = refl

  mixed-length : (n : ℕ) {chans : List (List ℤ)} → Every (λ xs. length xs ≡ n) chans → Every (λ xs. length xs ≡ n) (mixed mix_bits mix_res chans)
  unfolding mixed on_pair
  mixed-length n = go (is_zero mix_res)
    where
      go : (z : Bool) {chans : List (List ℤ)} → Every (λ xs. length xs ≡ n) chans → Every (λ xs. length xs ≡ n) (pick z chans (on_pair (mid_of mix_bits mix_res) sub32 chans))
      go true ls = ls
      go false none = none
      go false (one k none) = one k none
      go false (one {x = us} k (one {x = vs} l none)) =
          one (pairs-length (mid_of mix_bits mix_res) us vs k l) (one (pairs-length sub32 us vs k l) none)
      go false (one k (one l (one m ls))) = one k (one l (one m ls))

module _ (s : StreamInfo) (t : PackingSettings) (passage : List ℤ) where
  abbrev pub mixed_lanes : List (List ℤ)
  mixed_lanes = mixed t.mix_bits (pos t.mix_res) (lanes s.num_channels passage)

  pub mixed-lanes_count : length mixed_lanes ≡ s.num_channels
  mixed-lanes_count = mixed_count t.mix_bits (pos t.mix_res) (lanes s.num_channels passage) ∙ lanes_count s.num_channels passage

  module _ (facts : Told s t passage) where
    pub mixed-lanes-length : Every (λ xs. length xs ≡ samples_of s passage) mixed_lanes
    mixed-lanes-length =
        let n : ℕ = samples_of s passage in
        mixed-length t.mix_bits (pos t.mix_res) n (lanes-length n s.num_channels passage facts.channels_ge facts.rows)

    -- each sample has the bits that the element gives it
    pub mixed-lanes_in : AllIn 16 passage → Every (AllIn (written_bits s t)) mixed_lanes
    mixed-lanes_in samples =
        let d : ℕ = s.bit_depth in
        let channels : ℕ = s.num_channels in
        let fit : (1 ≤ d) × (d ≤ 24) = omega (arith, facts.depth) in
        let e : d + length (lanes channels passage) - 1 ≡ written_bits s t = omega (arith, lanes_count channels passage) in
        let i : AllIn d passage = rw facts.depth samples in
        rw e at (mixed_in d t.mix_bits t.mix_res fit.0 fit.1 facts.mix_res_le facts.mix_res_low (every-lane channels i))

    pub written_bits_lem : (1 ≤ written_bits s t) × (written_bits s t ≤ 17)
    written_bits_lem = omega (arith, facts.depth, facts.channels_ge, facts.channels_le)

-- ---- every bit is 0 or 1

bin_field : (n v : ℕ) (w : List ℕ) → Bin w → Bin (digits n v ++ w)
bin_field n v w h = bin_append (digits n v) w (bin_digits n v) h

bin_joined : {A : Type 0} (write : A → List ℕ) → ((x : A) → Bin (write x)) → (xs : List A) → Bin (joined (map write xs))
unfolding joined
bin_joined write h [] = tt
bin_joined write h (x ∷ xs) = bin_append (write x) (joined (map write xs)) (h x) (bin_joined write h xs)

bin_params : (c : ChannelSettings) → Bin (param_bits c)
unfolding param_bits
bin_params c =
    bin_field 4 0 _ (bin_field 4 c.quant _ (bin_field 3 c.pb_factor _ (bin_field 5 c.order _
    (bin_joined (λ x. digits 16 (mod_z (2 ^ 16) x)) (λ x. bin_digits 16 (mod_z (2 ^ 16) x)) (coefs_used c)))))

bin_count : (n frame : ℕ) → Bin (count_bits n frame)
unfolding count_bits
bin_count n frame = go (ltb n frame)
  where
    go : (t : Bool) → Bin (pick t (digits 32 n) [])
    go true = bin_digits 32 n
    go false = tt

bin_head : (channels n frame mix_bits mix_res : ℕ) → Bin (head_bits channels n frame mix_bits mix_res)
unfolding head_bits
bin_head channels n frame mix_bits mix_res =
    bin_field 3 (channels - 1) _ (bin_field 4 0 _ (bin_field 12 0 _ (bin_field 1 (pick (ltb n frame) 1 0) _ (bin_field 2 0 _ (bin_field 1 0 _
    (bin_append (count_bits n frame) _ (bin_count n frame) (bin_field 8 mix_bits _ (bin_digits 8 mix_res))))))))

-- the residuals of a channel
abbrev pub residuals_of : ℕ → ChannelSettings → List ℤ → Adapted
residuals_of b c xs = residuals b c.quant [] (reverse (coefs_used c)) xs

module _ (s : StreamInfo) (b : ℕ) where
  bin_channel : (c : ChannelSettings) (xs : List ℤ) → Bin (channel_code s b c xs).bits
  unfolding channel_code
  bin_channel c xs = bin_rice (factor s c.pb_factor) s.kb b (residuals_of b c xs).values 0 s.mb 0

  bin_channels : (cs : List ChannelSettings) (xss : List (List ℤ)) → Bin (joined (map (λ c. c.bits) (pairs (channel_code s b) cs xss)))
  unfolding joined pairs
  bin_channels [] xss = tt
  bin_channels (c ∷ cs) [] = tt
  bin_channels (c ∷ cs) (xs ∷ xss) =
      let ws : List ℕ = joined (map (λ c. c.bits) (pairs (channel_code s b) cs xss)) in
      bin_append (channel_code s b c xs).bits ws (bin_channel c xs) (bin_channels cs xss)

module _ (s : StreamInfo) (t : PackingSettings) (passage : List ℤ) where
  pub bin_packet : Bin (packet_bits s t passage)
  unfolding packet_bits channel_codes
  bin_packet =
      bin_append (head_bits _ _ _ _ _) _ (bin_head _ _ _ _ _)
      (bin_append (joined (map param_bits (settings_used s t))) _ (bin_joined param_bits bin_params (settings_used s t))
      (bin_append (joined _) (digits 3 7) (bin_channels s (written_bits s t) (settings_used s t) (mixed_lanes s t passage)) (bin_digits 3 7)))

-- ---- the limit

coefs_length : (xs : List ℤ) → length (joined (map (λ x. digits 16 (mod_z (2 ^ 16) x)) xs)) ≡ 16 * length xs
unfolding joined
coefs_length [] = refl
coefs_length (x ∷ xs) =
    omega (arith, length-append (digits 16 (mod_z (2 ^ 16) x)) (joined (map (λ x. digits 16 (mod_z (2 ^ 16) x)) xs)), length_digits 16 (mod_z (2 ^ 16) x), coefs_length xs)

pub params-length : (c : ChannelSettings) → length (param_bits c) ≡ 16 + 16 * length (coefs_used c)
unfolding param_bits
params-length c = simp (length-append, length_digits, coefs_length) (omega arith)

count_length : (n frame : ℕ) → length (count_bits n frame) ≤ 32
unfolding count_bits
count_length n frame = go (ltb n frame)
  where
    go : (t : Bool) → length (pick t (digits 32 n) []) ≤ 32
    go true = omega (arith, length_digits 32 n)
    go false = omega arith

pub head_length : (channels n frame mix_bits mix_res : ℕ) → length (head_bits channels n frame mix_bits mix_res) ≡ 39 + length (count_bits n frame)
unfolding head_bits
head_length channels n frame mix_bits mix_res = simp (length-append, length_digits) (omega arith)

module _ (s : StreamInfo) (b : ℕ) (mb_lt : s.mb < 256) (b_le : b ≤ 17) where
  -- a symbol of at most 26 bits a sample, and a run of at most 25
  pub channel-length : (c : ChannelSettings) (xs : List ℤ) → ChannelTold s c → length (channel_code s b c xs).bits ≤ 51 * length xs
  unfolding channel_code
  channel-length c xs h =
      let es : List ℤ = (residuals_of b c xs).values in
      let l : length es ≡ length xs = (residuals-length b c.quant [] (reverse (coefs_used c)) xs).of_values in
      let most : length es * (9 + max 16 b + 25) ≤ length xs * 51 = mul-le-mul (omega arith) (omega arith) in
      omega (arith, rice-length (factor s c.pb_factor) s.kb b es 0 s.mb 0 h.factor_le (omega arith))

  channels-length : (n : ℕ) {cs : List ChannelSettings} {xss : List (List ℤ)} → Every (ChannelTold s) cs → Every (λ xs. length xs ≡ n) xss
      → 74 + (length (joined (map param_bits cs)) + length (joined (map (λ c. c.bits) (pairs (channel_code s b) cs xss)))) ≤ bit_limit n cs
  unfolding joined pairs bit_limit
  channels-length n none ls = omega arith
  channels-length n (one {x = c} {xs = cs} h hs) none =
      omega (arith, channels-length n hs none, length-append (param_bits c) (joined (map param_bits cs)), params-length c, h.order_le, length-take c.order c.coefs)
  channels-length n (one {x = c} {xs = cs} h hs) (one {x = xs} {xs = xss} l ls) =
      omega (
        arith,
        channels-length n hs ls,
        length-append (param_bits c) (joined (map param_bits cs)),
        params-length c,
        length-take c.order c.coefs,
        length-append (channel_code s b c xs).bits (joined (map (λ c. c.bits) (pairs (channel_code s b) cs xss))),
        channel-length c xs h,
      )

module _ (s : StreamInfo) (t : PackingSettings) (passage : List ℤ) (w : Writable s t passage) where
  pub packet_limit : length (packet_bits s t passage) ≤ bit_limit (samples_of s passage) (settings_used s t)
  unfolding packet_bits channel_codes
  packet_limit =
      let facts = told s t passage w in
      let n : ℕ = samples_of s passage in
      let h : List ℕ = head_bits s.num_channels n s.frame_length t.mix_bits t.mix_res in
      let u : List ℕ = joined (map param_bits (settings_used s t)) in
      let v : List ℕ = joined (map (λ c. c.bits) (channel_codes s t passage)) in
      let e : length (h ++ (u ++ (v ++ digits 3 7))) ≡ length h + (length u + (length v + 3)) = simp (length-append, length_digits) refl in
      omega (
        arith,
        head_length s.num_channels n s.frame_length t.mix_bits t.mix_res,
        count_length n s.frame_length,
        channels-length s (written_bits s t) facts.mb_lt (written_bits_lem s t passage facts).1 n facts.channels_in (mixed-lanes-length s t passage facts),
      )

  pub packet_bytes_limit : length (packet_bytes s t passage) ≤ (bit_limit (samples_of s passage) (settings_used s t) + 7) / 8
  unfolding packet_bytes
  packet_bytes_limit = omega (arith, packet_limit, length-padded (packet_bits s t passage))
