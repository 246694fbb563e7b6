-- The packet's parts: those of one channel or two, how long they are, and that one after the other they are the packet.
use Prim.Native.Nat.{ℕ, zero, suc, ◌+◌, ◌*◌, ◌^◌, ◌≤◌, ◌<◌}
use mathlib.Core.Path.{◌≡◌, refl, ◌∙◌}
use mathlib.Core.List.{List, [], ◌∷◌, ◌++◌, map, append_assoc}
use native.Mathlib.Omega.{arith}
use lib.ListN.{length, take, get_or, replicate, length-append}
use lib.IntN.{ℤ}
use Rattle.rules.specs.declared.StreamInfo.{StreamInfo}
use Rattle.rules.specs.declared.ChannelSettings.{ChannelSettings}
use Rattle.rules.specs.declared.PackingSettings.{PackingSettings}
use Rattle.rules.specs.Bits.{digits, to_edge}
use Rattle.rules.specs.Buffers.{laid, pairs}
use Rattle.rules.specs.Writer.{settings_used, written_bits, joined, param_bits, head_bits, bit_limit, channel_code, channel_codes, packet_bits, packet_bytes}
use Rattle.laws.specs.Bits.{length_digits}
use Rattle.laws.specs.Words.{Every, none, one}
use Rattle.laws.specs.Writer.{ChannelTold, Writable, told, samples_of, mixed_lanes, mixed-lanes_count, packet_limit}
use Rattle.enc_bits.specs.declared.Sink.{Sink}
use Rattle.enc_bits.specs.Sent.{Sent, start}
use Rattle.enc_bits.proofs.Sent.{sent_sent, sent_padded}
use Rattle.enc_channel.specs.Channel.{lane_of}

-- ---- the channels that there are

module _ (s : StreamInfo) (t : PackingSettings) (cs : Every (ChannelTold s) (settings_used s t)) where
  pub first-told : 1 ≤ s.num_channels → ChannelTold s t.first
  first-told h = by s.num_channels h cs
    where
      by : (n : ℕ) → 1 ≤ n → Every (ChannelTold s) (take n (t.first ∷ t.second ∷ [])) → ChannelTold s t.first
      by zero h cs = absurd (omega arith)
      by (suc n) h (one c cs) = c

  pub second-told : s.num_channels ≡ 2 → ChannelTold s t.second
  second-told e = by s.num_channels e cs
    where
      by : (n : ℕ) → n ≡ 2 → Every (ChannelTold s) (take n (t.first ∷ t.second ∷ [])) → ChannelTold s t.second
      by zero e cs = absurd (omega arith)
      by (suc zero) e cs = absurd (omega arith)
      by (suc (suc n)) e (one b (one c cs)) = c

one_lane : (xss : List (List ℤ)) → length xss ≡ 1 → xss ≡ get_or xss 0 [] ∷ []
one_lane [] e = absurd (omega arith)
one_lane (xs ∷ []) e = refl
one_lane (xs ∷ ys ∷ xss) e = absurd (omega arith)

two_lanes : (xss : List (List ℤ)) → length xss ≡ 2 → xss ≡ get_or xss 0 [] ∷ get_or xss 1 [] ∷ []
two_lanes [] e = absurd (omega arith)
two_lanes (xs ∷ []) e = absurd (omega arith)
two_lanes (xs ∷ ys ∷ []) e = refl
two_lanes (xs ∷ ys ∷ zs ∷ xss) e = absurd (omega arith)

module _ (s : StreamInfo) (t : PackingSettings) (passage : List ℤ) where
  abbrev code_of : ChannelSettings → ℕ → List ℕ
  code_of c which = (channel_code s (written_bits s t) c (lane_of s t passage which)).bits

  abbrev codes : List (List ℤ) → List ChannelSettings → List ℕ
  codes xss cs = joined (map (λ c. c.bits) (pairs (channel_code s (written_bits s t)) cs xss))

  pub codes_one : s.num_channels ≡ 1 → joined (map (λ c. c.bits) (channel_codes s t passage)) ≡ code_of t.first 0 ++ []
  unfolding channel_codes joined pairs
  codes_one e = by (mixed_lanes s t passage) (mixed-lanes_count s t passage ∙ e) (settings_used s t) (rw e)
    where
      by : (xss : List (List ℤ)) → length xss ≡ 1 → (cs : List ChannelSettings) → cs ≡ t.first ∷ [] → codes xss cs ≡ (channel_code s (written_bits s t) t.first (get_or xss 0 [])).bits ++ []
      by xss k cs d = rw (d, one_lane xss k)

  pub codes_two : s.num_channels ≡ 2 → joined (map (λ c. c.bits) (channel_codes s t passage)) ≡ code_of t.first 0 ++ (code_of t.second 1 ++ [])
  unfolding channel_codes joined pairs
  codes_two e = by (mixed_lanes s t passage) (mixed-lanes_count s t passage ∙ e) (settings_used s t) (rw e)
    where
      by : (xss : List (List ℤ)) → length xss ≡ 2 → (cs : List ChannelSettings) → cs ≡ t.first ∷ t.second ∷ []
          → codes xss cs ≡ (channel_code s (written_bits s t) t.first (get_or xss 0 [])).bits ++ ((channel_code s (written_bits s t) t.second (get_or xss 1 [])).bits ++ [])
      by xss k cs d = rw (d, two_lanes xss k)

  -- ---- how long they are

  abbrev pub head_part : List ℕ
  head_part = head_bits s.num_channels (samples_of s passage) s.frame_length t.mix_bits t.mix_res

  abbrev pub param_part : List ℕ
  param_part = joined (map param_bits (settings_used s t))

  abbrev pub code_part : List ℕ
  code_part = joined (map (λ c. c.bits) (channel_codes s t passage))

  limit_le : {cs : List ChannelSettings} (n : ℕ) → n ≤ 4096 → Every (ChannelTold s) cs → bit_limit n cs ≤ 74 + length cs * 209392
  unfolding bit_limit
  limit_le n h none = omega arith
  limit_le n h (one {xs = cs} c rest) = omega (arith, c.order_le, limit_le n h rest)

  abbrev whole : List ℕ
  whole = head_part ++ (param_part ++ (code_part ++ digits 3 7))

  whole_length : length whole ≡ length head_part + (length param_part + (length code_part + 3))
  whole_length = simp (length-append, length_digits) refl

  pub parts_lt : Writable s t passage → length head_part + (length param_part + (length code_part + 3)) < 2 ^ 20
  unfolding packet_bits
  parts_lt w =
      let f = told s t passage w in
      let l = limit_le (samples_of s passage) (omega (arith, f.rows_le, f.frame_le)) f.channels_in in
      omega (arith, packet_limit s t passage w, whole_length, l, f.used, f.channels_le)

  -- ---- one after the other

  pub parts_sent : {a b c d e : List ℕ} {x y z r : Sink} → Sent a b start head_part x → Sent b c x param_part y → Sent c d y code_part z
      → Sent d e z (digits 3 7 ++ replicate (to_edge (z.at * 8 + z.count + 3)) 0) r
      → (e ≡ laid (packet_bytes s t passage) a) × (r.at ≡ length (packet_bytes s t passage))
  unfolding packet_bytes packet_bits
  parts_sent {z = z} p q u v =
      let n : z.at * 8 + z.count + 3 ≡ length whole = omega (arith, p.size, q.size, u.size, whole_length) in
      let zs : List ℕ = replicate (to_edge (length whole)) 0 in
      let all : head_part ++ (param_part ++ (code_part ++ (digits 3 7 ++ zs))) ≡ whole ++ zs = simp append_assoc in
      sent_padded whole (rw all at (sent_sent head_part _ p (sent_sent param_part _ q (sent_sent code_part _ u (rw n at v)))))
