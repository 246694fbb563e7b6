-- A channel's samples and residuals in scratch, and scratch cleared of them.
use Prim.Native.Nat.{ℕ, zero, suc, ◌+◌, ◌-◌, ◌≤◌, ◌<◌}
use mathlib.Core.Path.{◌≡◌, refl, ap, ◌∙◌}
use mathlib.Core.List.{List, [], ◌++◌, append_assoc, reverse}
use native.Mathlib.Omega.{arith}
use lib.ListN.{length, take, drop, get_or, replicate, length-replicate}
use lib.Seq.{take_at, drop_at}
use lib.IntN.{ℤ, pos}
use Rattle.rules.specs.declared.StreamInfo.{StreamInfo}
use Rattle.rules.specs.declared.PackingSettings.{PackingSettings}
use Rattle.rules.specs.declared.ChannelSettings.{ChannelSettings}
use Rattle.rules.specs.Stream.{factor}
use Rattle.rules.specs.Buffers.{cleared}
use Rattle.rules.specs.Writer.{coefs_used, rice_code, channel_code}
use Rattle.laws.specs.Words.{Every, none, one}
use Rattle.laws.specs.Buffers.{laid-all, laid-laid}
use Rattle.laws.specs.Prediction.{residuals-length}
use Rattle.laws.specs.Writer.{Told, samples_of, residuals_of, mixed-lanes_count, mixed-lanes-length}
use Rattle.enc_channel.specs.Channel.{lane_of}

every_at : {A : Type 0} {P : A → Type 0} {xs : List A} (i : ℕ) (z : A) → Every P xs → i < length xs → P (get_or xs i z)
every_at i z none h = absurd (omega arith)
every_at zero z (one p ps) h = p
every_at (suc i) z (one p ps) h = every_at i z ps (omega arith)

pub lane-length : {s : StreamInfo} {t : PackingSettings} {passage : List ℤ} {which : ℕ} → Told s t passage → which < s.num_channels
    → length (lane_of s t passage which) ≡ samples_of s passage
lane-length {s} {t} {passage} {which} f h = every_at which [] (mixed-lanes-length s t passage f) (omega (arith, mixed-lanes_count s t passage))

-- the part of scratch that holds the residuals
pub second_part : (xs es more : List ℤ) {n end : ℕ} → length xs ≡ n → length es ≡ n → end ≡ n + n → take (end - n) (drop n (xs ++ es ++ more)) ≡ es
second_part xs es more {n} {end} e f g =
    let k : end - n ≡ n = omega arith in
    rw (append_assoc, k, drop_at xs (es ++ more) n e) (take_at es more n f)

-- what was laid in the first places is gone with them
pub cleared_over : (k : ℕ) (zs scr : List ℤ) {end : ℕ} → length zs ≡ end → end ≤ k → k ≤ length scr → cleared (pos 0) k (zs ++ drop end scr) ≡ cleared (pos 0) k scr
cleared_over k zs scr e h l =
    let z : length (replicate k (pos 0)) ≡ k = length-replicate k (pos 0) in
    rw (← e, ← laid-all zs scr (omega (arith, e))) (laid-laid zs (replicate k (pos 0)) scr (omega (arith, z)) (omega (arith, z)))

-- samples that came back from a loan, and their residuals
pub fill_done : {xs ys buf' : List ℤ} (buf : List ℤ) (b : ℕ) (c : ChannelSettings) {n : ℕ} → ys ≡ xs → length xs ≡ n
    → buf' ≡ take n (ys ++ drop n buf) ++ (residuals_of b c (take n (ys ++ drop n buf))).values → buf' ≡ xs ++ (residuals_of b c xs).values
fill_done {ys = ys} buf b c {n} e l f = rw (take_at ys (drop n buf) n (ap length e ∙ l), e) at f

-- a channel's bits are those of its residuals
pub channel_bits : (s : StreamInfo) (c : ChannelSettings) (b : ℕ) (xs : List ℤ)
    → (channel_code s b c xs).bits ≡ (rice_code (factor s c.pb_factor) s.kb b (residuals_of b c xs).values 0 s.mb 0).bits
unfolding channel_code
channel_bits s c b xs = refl

pub residuals_count : (b : ℕ) (c : ChannelSettings) (xs : List ℤ) → length (residuals_of b c xs).values ≡ length xs
residuals_count b c xs = (residuals-length b c.quant [] (reverse (coefs_used c)) xs).of_values
