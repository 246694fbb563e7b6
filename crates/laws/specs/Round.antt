-- The packet that the writing rules name is read back by the reading rules: every sample, every history and all coefficients.
use Prim.Native.Nat.{ℕ, zero, suc, ◌+◌, ◌-◌, ◌*◌, ◌/◌, ◌^◌, ◌≤◌, ◌<◌}
use Rattle.std.specs.Prelude.{◌≡◌, Bool, ◌||◌, eqb, drop, replicate, pos, Option, None, Some}
use Rattle.std.proofs.Math.Path.{refl, sym, ap, ap₂}
use Rattle.std.proofs.Common.{◌∙◌, zero-mul, add-zero, arith, lit<}
use Rattle.std.proofs.Math.Bool.{true, false}
use mathlib.Core.List.{List, [], ◌∷◌, ◌++◌, map, reverse, append_assoc, append-nil}
use borrow.Author.Tests.{le-leb, lt-ltb, ltb-false}
use Rattle.std.proofs.Math.Dec.{ltb}
use Rattle.std.proofs.Math.ListN.{length, length-append}
use Rattle.std.proofs.lemmas.List.{length-reverse, length-replicate}
use Rattle.std.proofs.Math.IntN.{ℤ}
use Rattle.rules.specs.declared.StreamInfo.{StreamInfo}
use Rattle.rules.specs.declared.ChannelSettings.{ChannelSettings}
use Rattle.rules.specs.declared.PackingSettings.{PackingSettings}
use Rattle.rules.specs.Answers.{got, pick, bind, Read, times, each}
use Rattle.rules.specs.Bits.{digits, bits_of, within, field, skip_to_byte, to_edge}
use Rattle.rules.specs.Words.{mod_z, signed, is_zero}
use Rattle.rules.specs.Stream.{factor}
use Rattle.rules.specs.Buffers.{lanes, pairs}
use Rattle.rules.specs.Element.{Sound, Channel, Header, Params, Plan, numbers, params_ok, mix_ok, all_of, with_extra, extra_bits, channel_of, assembled, sample_number, params, channel, planned, compressed, header, audio_element}
use Rattle.rules.specs.Packet.{audio, agrees, followed, onward, sound_element, end_element, tagged, turn, run, packet}
use Rattle.rules.specs.Writer.{settings_used, written_bits, coefs_used, joined, param_bits, count_bits, head_bits, channel_code, channel_codes, packet_bits, packet_bytes}
use Rattle.laws.specs.Bits.{length_digits, At, at_first, at_next, at_mid, next_field, field-digits, bits_padded}
use Rattle.laws.specs.Words.{InBits, Every, none, one, AllIn, all_in_more, mod_z_lt, signed-mod_z}
use Rattle.laws.specs.Buffers.{map-pairs, pairs-second, lanes_count, lanes-length, every-lane}
use Rattle.laws.specs.Rice.{folded_lt, Ranged, rice_back}
use Rattle.laws.specs.Prediction.{predicted-residuals, residuals_in, residuals-length}
use Rattle.laws.specs.Mix.{unmixed-mixed}
use Rattle.laws.specs.Packet.{enough_turns}
use Rattle.laws.specs.Writer.{ChannelFits, Held, samples_of, Told, Writable, told, channels_fit, mixed_lanes, mixed-lanes_count, mixed-lanes-length, mixed-lanes_in, written_bits_lem, residuals_of, bin_packet}

-- ---- the header

abbrev partial_bit : ℕ → ℕ → ℕ
partial_bit n frame = pick (ltb n frame) 1 0

-- instance 0, unused, partial, shift 0, compressed, the count
abbrev header_bits : ℕ → ℕ → List ℕ
header_bits n frame = digits 4 0 ++ (digits 12 0 ++ (digits 1 (partial_bit n frame) ++ (digits 2 0 ++ (digits 1 0 ++ count_bits n frame))))

abbrev header_of : ℕ → Header
header_of n = record { code = 0; raw = 0; samples = n }

partial_lt : (n frame : ℕ) → partial_bit n frame < 2
partial_lt n frame = go (ltb n frame)
  where
    go : (t : Bool) → pick t 1 0 < 2
    go true = omega arith
    go false = omega arith

module _ (s : StreamInfo) (n : ℕ) (n-le : n ≤ s.frame_length) (frame_le : s.frame_length ≤ 4096) where
  abbrev frame : ℕ
  frame = s.frame_length

  count_at : {bits : List ℕ} {p : ℕ} → At bits p (count_bits n frame)
      → sample_number bits s (partial_bit n frame) p ≡ got n (p + length (count_bits n frame))
  unfolding sample_number count_bits bind
  count_at {bits} {p} = go (ltb n frame) refl
    where
      go : (t : Bool) → ltb n frame ≡ t → At bits p (pick t (digits 32 n) [])
          → sample_number bits s (pick t 1 0) p ≡ got n (p + length (pick t (digits 32 n) []))
      go true e at = rw (field-digits 32 n (omega arith) at, le-leb n frame n-le, length_digits 32 n)
      go false e at = ap₂ got (omega (arith, ltb-false n frame e)) (omega arith)

  header_at : {bits : List ℕ} {p : ℕ} → At bits p (header_bits n frame) → header bits s p ≡ got (header_of n) (p + length (header_bits n frame))
  unfolding header bind
  header_at at =
      let f1 = next_field 4 0 _ (lit< tt) at in
      let f2 = next_field 12 0 _ (lit< tt) f1.1 in
      let f3 = next_field 1 (partial_bit n frame) _ (partial_lt n frame) f2.1 in
      let f4 = next_field 2 0 _ (lit< tt) f3.1 in
      let f5 = next_field 1 0 _ (lit< tt) f4.1 in
      rw (f1.0, f2.0, f3.0, f4.0, f5.0, count_at f5.1)
      (ap (got (header_of n)) (simp (length-append, length_digits) (omega arith)))

-- ---- a channel's parameters

-- what was written one after the other is read one after the other
module _ {A B : Type 0} {bits : List ℕ} (read : Read B) (write : A → List ℕ) (value : A → B) (Good : A → Type 0)
    (back : (x : A) (p : ℕ) → Good x → At bits p (write x) → read p ≡ got (value x) (p + length (write x))) where
  times_back : {p : ℕ} {xs : List A} → Every Good xs → At bits p (joined (map write xs))
      → times (length xs) read p ≡ got (map value xs) (p + length (joined (map write xs)))
  unfolding times bind joined
  times_back none at = ap (got []) (omega arith)
  times_back {p} (one {x = x} {xs = xs} g gs) at =
      let w : List ℕ = write x in
      let ws : List ℕ = joined (map write xs) in
      rw (back x p g (at_first w ws at), times_back {p = p + length (write x)} gs (at_next w ws at))
      (ap (got (value x ∷ map value xs)) (omega (arith, length-append w ws)))

abbrev coef_bits : ℤ → List ℕ
coef_bits x = digits 16 (mod_z (2 ^ 16) x)

coef_at : {bits : List ℕ} (x : ℤ) (p : ℕ) → InBits 16 x → At bits p (coef_bits x)
    → field bits 16 p ≡ got (mod_z (2 ^ 16) x) (p + length (coef_bits x))
coef_at x p h at = field-digits 16 (mod_z (2 ^ 16) x) (mod_z_lt (2 ^ 16) x (lit< tt)) at ∙ rw length_digits

coefs_again : {xs : List ℤ} → AllIn 16 xs → map (signed 16) (map (mod_z (2 ^ 16)) xs) ≡ xs
coefs_again none = refl
coefs_again (one {x = x} h hs) = ap₂ ◌∷◌ (signed-mod_z 16 x (omega arith) h) (coefs_again hs)

-- the parameters that settings come to
abbrev params_of : StreamInfo → ChannelSettings → Params
params_of s c = record { mode = 0; quant = c.quant; factor = factor s c.pb_factor; coefs = reverse (coefs_used c) }

params_at : {bits : List ℕ} (s : StreamInfo) (c : ChannelSettings) (p : ℕ) → ChannelFits s c → At bits p (param_bits c)
    → params bits s p ≡ got (params_of s c) (p + length (param_bits c))
unfolding params param_bits bind
params_at {bits} s c p h at =
    let f1 = next_field 4 0 _ (lit< tt) at in
    let f2 = next_field 4 c.quant _ (omega (arith, h.told.quant_le)) f1.1 in
    let f3 = next_field 3 c.pb_factor _ (omega (arith, h.told.pb_factor_le)) f2.1 in
    let f4 = next_field 5 c.order _ (omega (arith, h.told.order_le)) f3.1 in
    let cs = times_back (field bits 16) coef_bits (mod_z (2 ^ 16)) (InBits 16) coef_at h.coefs_in f4.1 in
    rw (f1.0, f2.0, f3.0, f4.0, rw h.coefs_used_lem at cs, coefs_again h.coefs_in)
    (ap (got (params_of s c)) (simp (length-append, length_digits) (omega arith)))

-- ---- the plan

-- no cause 11
params_ok_lem : (s : StreamInfo) (c : ChannelSettings) → ChannelFits s c → params_ok (params_of s c) ≡ true
unfolding params_ok
params_ok_lem s c h =
    let o : length (reverse (coefs_used c)) ≤ 30 = omega (arith, length-reverse (coefs_used c), h.coefs_used_lem, h.told.order_le) in
    rw (lt-ltb 0 c.quant h.told.quant_ge, lt-ltb (length (reverse (coefs_used c))) 31 (omega arith), le-leb (factor s c.pb_factor) 127 h.told.factor_le)

all-params_ok : (s : StreamInfo) {cs : List ChannelSettings} → Every (ChannelFits s) cs → all_of params_ok (map (params_of s) cs) ≡ true
unfolding all_of
all-params_ok s none = refl
all-params_ok s (one {x = c} h hs) = rw (params_ok_lem s c h, all-params_ok s hs)

mix_ok_lem : (channels mix_bits : ℕ) (mix_res : ℤ) → mix_bits ≤ 31 → mix_ok channels mix_bits mix_res ≡ true
unfolding mix_ok
mix_ok_lem channels mix_bits mix_res h = rw (le-leb mix_bits 31 h) (go (eqb channels 1 || is_zero mix_res))
  where
    go : (a : Bool) → a || true ≡ true
    go true = refl
    go false = refl

signed_res : (mix_res : ℕ) → mix_res ≤ 127 → signed 8 mix_res ≡ pos mix_res
unfolding signed
signed_res mix_res h = rw (lt-ltb (2 * mix_res) 256 (omega arith))

abbrev plan_bits : ℕ → ℕ → List ChannelSettings → List ℕ
plan_bits mix_bits mix_res cs = digits 8 mix_bits ++ (digits 8 mix_res ++ joined (map param_bits cs))

abbrev plan_of : StreamInfo → ℕ → ℕ → List ChannelSettings → Plan
plan_of s mix_bits mix_res cs = record { mix_bits = mix_bits; mix_res = pos mix_res; params = map (params_of s) cs }

planned_at : {bits : List ℕ} {p : ℕ} (s : StreamInfo) (mix_bits mix_res : ℕ) {cs : List ChannelSettings} → mix_bits ≤ 7 → mix_res ≤ 127
    → Every (ChannelFits s) cs → At bits p (plan_bits mix_bits mix_res cs)
    → planned bits s (length cs) p ≡ got (plan_of s mix_bits mix_res cs) (p + length (plan_bits mix_bits mix_res cs))
unfolding planned bind
planned_at {bits} {p} s mix_bits mix_res {cs} lb lr hs at =
    let f1 = next_field 8 mix_bits _ (omega arith) at in
    let f2 = next_field 8 mix_res _ (omega arith) f1.1 in
    let ps = times_back (params bits s) param_bits (params_of s) (ChannelFits s) (params_at s) hs f2.1 in
    rw (f1.0, f2.0, ps, signed_res mix_res lr, all-params_ok s hs, mix_ok_lem (length cs) mix_bits (pos mix_res) (omega arith))
    (ap (got (plan_of s mix_bits mix_res cs)) (simp (length-append, length_digits) (omega arith)))

-- ---- the Rice data

ranged : (b : ℕ) {es : List ℤ} → 1 ≤ b → AllIn b es → Ranged b es
ranged b h none = tt
ranged b h (one {x = e} f fs) = (folded_lt b e h f, ranged b h fs)

-- a channel as it is read: the writer's samples and the writer's track
abbrev heard : StreamInfo → ℕ → ChannelSettings → List ℤ → Channel
heard s b c xs = record { values = xs; track = (channel_code s b c xs).track }

module _ (bits : List ℕ) (s : StreamInfo) (n b : ℕ) (kb_ge : 8 ≤ s.kb) (b-ge : 1 ≤ b) (b_le : b ≤ 32) (n-le : n ≤ 2 ^ 16) where
  channel_at : {p : ℕ} (c : ChannelSettings) {xs : List ℤ} → length xs ≡ n → AllIn b xs → At bits p (channel_code s b c xs).bits
      → channel bits s n b (params_of s c) p ≡ got (heard s b c xs) (p + length (channel_code s b c xs).bits)
  unfolding channel channel_code channel_of bind
  channel_at {p} c {xs} l f at =
      let cs : List ℤ = reverse (coefs_used c) in
      let es : List ℤ = (residuals_of b c xs).values in
      let k : length es ≡ n = (residuals-length b c.quant [] cs xs).of_values ∙ l in
      let r : Ranged b es = ranged b b-ge (residuals_in b c.quant [] cs f) in
      let d = rice_back (factor s c.pb_factor) s.kb b es s.mb kb_ge b_le r (omega arith) at in
      rw (rw k at d, predicted-residuals b c.quant [] cs b-ge b_le f)

  channels_at : {p : ℕ} (cs : List ChannelSettings) {xss : List (List ℤ)} → length cs ≡ length xss
      → Every (λ xs. length xs ≡ n) xss → Every (AllIn b) xss
      → let codes = pairs (channel_code s b) cs xss in
      At bits p (joined (map (λ c. c.bits) codes))
      → each (map (params_of s) cs) (channel bits s n b) p ≡ got (pairs (heard s b) cs xss) (p + length (joined (map (λ c. c.bits) codes)))
  unfolding each joined pairs bind
  channels_at [] e none none at = ap (got []) (omega arith)
  channels_at [] e (one l ls) fs at = absurd (omega arith)
  channels_at (c ∷ cs) e none none at = absurd (omega arith)
  channels_at {p} (c ∷ cs) e (one {x = xs} {xs = xss} l ls) (one f fs) at =
      let w : List ℕ = (channel_code s b c xs).bits in
      let ws : List ℕ = joined (map (λ c. c.bits) (pairs (channel_code s b) cs xss)) in
      rw (channel_at c l f (at_first w ws at), channels_at {p = p + length (channel_code s b c xs).bits} cs (omega arith) ls fs (at_next w ws at))
      (ap (got (heard s b c xs ∷ pairs (heard s b) cs xss)) (omega (arith, length-append w ws)))

-- ---- the element

-- no extra bits
extra_at : (bits : List ℕ) (count p : ℕ) → p ≤ length bits → extra_bits bits count 0 p ≡ got (numbers count 0 (drop p bits)) p
unfolding extra_bits within
extra_at bits count p h = rw (zero-mul count, add-zero p, le-leb p (length bits) h)

module _ (s : StreamInfo) (t : PackingSettings) (passage : List ℤ) where
  -- the passage's channels, and the writer's history and coefficients after every sample
  abbrev pub sound_of : Sound
  sound_of = record { samples = samples_of s passage; chans = lanes s.num_channels passage; tracks = map (λ c. c.track) (channel_codes s t passage) }

  abbrev channels : ℕ
  channels = s.num_channels

  abbrev n : ℕ
  n = samples_of s passage

  abbrev b : ℕ
  b = written_bits s t

  abbrev cs : List ChannelSettings
  cs = settings_used s t

  abbrev plan : Plan
  plan = plan_of s t.mix_bits t.mix_res cs

  -- the parts of the element, after its tag
  abbrev head_part : List ℕ
  head_part = header_bits n s.frame_length

  abbrev plan_part : List ℕ
  plan_part = plan_bits t.mix_bits t.mix_res cs

  abbrev code_part : List ℕ
  code_part = joined (map (λ c. c.bits) (channel_codes s t passage))

  -- with its tag
  abbrev element : List ℕ
  element = digits 3 (channels - 1) ++ (head_part ++ (plan_part ++ code_part))

  packet-parts : packet_bits s t passage ≡ element ++ digits 3 7
  unfolding packet_bits head_bits
  packet-parts = simp append_assoc

  module _ (facts : Told s t passage) (held : Held s t) (samples : AllIn 16 passage) where
    used_count : length cs ≡ length (mixed_lanes s t passage)
    used_count = facts.used ∙ sym (mixed-lanes_count s t passage)

    assembled_back : (extra : List ℕ) → assembled channels 0 n plan extra (pairs (heard s b) cs (mixed_lanes s t passage)) ≡ sound_of
    unfolding assembled with_extra channel_codes
    assembled_back extra =
        let xss : List (List ℤ) = mixed_lanes s t passage in
        let values = map-pairs (λ c. c.values) (heard s b) cs xss ∙ pairs-second cs xss used_count in
        let tracks = map-pairs (λ c. c.track) (heard s b) cs xss ∙ sym (map-pairs (λ c. c.track) (channel_code s b) cs xss) in
        let long : Every (λ xs. length xs ≡ n) (lanes channels passage) = lanes-length n channels passage facts.channels_ge facts.rows in
        let small : Every (AllIn 32) (lanes channels passage) = every-lane channels (all_in_more 16 32 (omega arith) samples) in
        rw (values, tracks, unmixed-mixed t.mix_bits (pos t.mix_res) n long small)

    compressed_at : {bits : List ℕ} {p : ℕ} → At bits p (plan_part ++ code_part)
        → compressed bits s channels 0 n p ≡ got sound_of (p + length (plan_part ++ code_part))
    unfolding compressed bind channel_codes
    compressed_at {bits} {p} at =
        let at' : At bits (p + length plan_part) code_part = at_next plan_part code_part at in
        let fit : (1 ≤ b) × (b ≤ 17) = written_bits_lem s t passage facts in
        let few : n ≤ 2 ^ 16 = omega (arith, facts.rows_le, facts.frame_le) in
        let plan_read = planned_at s t.mix_bits t.mix_res facts.mix_bits_le facts.mix_res_le (channels_fit s t passage facts held) (at_first plan_part code_part at) in
        let channelsRead = channels_at bits s n b facts.kb_ge fit.0 (omega arith) few cs used_count (mixed-lanes-length s t passage facts) (mixed-lanes_in s t passage facts samples) at' in
        rw (le-leb b 32 (omega arith), lt-ltb 0 b fit.0, rw facts.used at plan_read, extra_at bits (n * channels) (p + length plan_part) (omega (arith, at'.fits)), channelsRead)
        (ap₂ got (assembled_back _) (omega (arith, length-append plan_part code_part)))

    audio_at : {bits : List ℕ} {p : ℕ} → At bits p (head_part ++ (plan_part ++ code_part))
        → audio_element bits s channels p ≡ got sound_of (p + length (head_part ++ (plan_part ++ code_part)))
    unfolding audio_element bind
    audio_at at =
        let w : List ℕ = plan_part ++ code_part in
        rw (header_at s n facts.rows_le facts.frame_le (at_first head_part w at), compressed_at (at_next head_part w at))
        (ap (got sound_of) (omega (arith, length-append head_part w)))

-- ---- the packet

module _ (bits : List ℕ) (s : StreamInfo) where
  -- tag 0 for one channel, 1 for two
  tag_at : (so_far : ℕ) (m : Option ℕ) (channels p : ℕ) → 1 ≤ channels → channels ≤ 2
      → tagged bits s so_far m (channels - 1) p ≡ sound_element bits s so_far m channels p
  unfolding tagged
  tag_at so_far m zero p l h = absurd (omega arith)
  tag_at so_far m (suc zero) p l h = refl
  tag_at so_far m (suc (suc zero)) p l h = refl
  tag_at so_far m (suc (suc (suc k))) p l h = absurd (omega arith)

  edge_at : (p : ℕ) → p + to_edge p ≤ length bits → skip_to_byte bits p ≡ got tt (p + to_edge p)
  unfolding within
  edge_at p fit = rw (le-leb (p + to_edge p) (length bits) fit)

  -- END goes to the byte edge
  end_at : {p : ℕ} (so_far n most : ℕ) → s.num_channels ≤ so_far → At bits p (digits 3 7) → p + 3 + to_edge (p + 3) ≤ length bits
      → run bits s (suc most) so_far (Some n) p ≡ got (record { samples = n; chans = []; tracks = [] }) (p + 3 + to_edge (p + 3))
  unfolding run turn tagged end_element onward bind
  end_at {p} so_far n most l at fit =
      rw (field-digits {p = p} 3 7 (lit< tt) at, edge_at (p + 3) fit, le-leb s.num_channels so_far l)

module _ (s : StreamInfo) (t : PackingSettings) (passage : List ℤ) (facts : Told s t passage) (held : Held s t) (samples : AllIn 16 passage) where
  abbrev sound : Sound
  sound = sound_of s t passage

  abbrev first : List ℕ
  first = element s t passage

  turn_at : {bits : List ℕ} {p : ℕ} → At bits p first → turn bits s 0 None p ≡ got (audio sound) (p + length first)
  unfolding turn sound_element agrees bind
  turn_at {bits} {p} at =
      let c : ℕ = s.num_channels in
      let tag = next_field 3 (c - 1) _ (omega (arith, facts.channels_le)) at in
      rw (tag.0, tag_at bits s 0 None c (p + 3) facts.channels_ge facts.channels_le, le-leb (0 + c) c (omega arith), audio_at s t passage facts held samples tag.1)
      (ap (got (audio sound)) (simp (length-append, length_digits) (omega arith)))

  -- the element, and END
  turns_at : {bits : List ℕ} {p : ℕ} (most : ℕ) → At bits p (first ++ digits 3 7)
      → let q = p + length first + 3 in
      q + to_edge q ≤ length bits → run bits s (suc (suc most)) 0 None p ≡ got sound (q + to_edge q)
  unfolding run onward followed bind
  turns_at {bits} most at fit =
      let c : ℕ = 0 + length sound.chans in
      let all : s.num_channels ≤ c = omega (arith, lanes_count s.num_channels passage) in
      rw (turn_at (at_first first (digits 3 7) at), end_at bits s c sound.samples most all (at_next first (digits 3 7) at) fit)
      (simp append-nil)

  -- with zero bits to the byte edge, and anything after them
  packet_at : (later : List ℕ)
      → let v = first ++ digits 3 7 in
      let w = v ++ replicate (to_edge (length v)) 0 in
      packet (w ++ later) s ≡ got sound (length w)
  packet_at later =
      let v : List ℕ = first ++ digits 3 7 in
      let z : List ℕ = replicate (to_edge (length v)) 0 in
      let bits : List ℕ = v ++ z ++ later in
      let q : ℕ = 0 + length first + 3 in
      let same : q ≡ length v = omega (arith, length-append first (digits 3 7), length_digits 3 7) in
      let place : q + to_edge q ≡ length (v ++ z) =
      ap (λ (x : ℕ). x + to_edge x) same ∙ sym (length-append v z ∙ ap (λ (x : ℕ). length v + x) (length-replicate (to_edge (length v)) 0)) in
      let fit : q + to_edge q ≤ length bits = rw place (omega (arith, length-append (v ++ z) later)) in
      sym (enough_turns bits s (suc (suc (length bits / 3))) (omega arith))
      ∙ turns_at (length bits / 3) (at_first v z (at_mid [] (v ++ z) later)) fit
      ∙ ap (got sound) place

module _ (s : StreamInfo) (t : PackingSettings) (passage : List ℤ) (w : Writable s t passage) (held : Held s t) (samples : AllIn 16 passage) where
  -- the packet, with anything after it, is read to the passage's channels, with the writer's history and coefficients after every sample
  pub packet_back : (later : List ℕ)
      → packet (bits_of (packet_bytes s t passage) ++ later) s ≡ got (sound_of s t passage) (length (bits_of (packet_bytes s t passage)))
  unfolding packet_bytes
  packet_back later =
      rw (bits_padded (packet_bits s t passage) (bin_packet s t passage), packet-parts s t passage) (packet_at s t passage (told s t passage w) held samples later)
