-- What an accepted packet is, and that it is no longer than the limit: with so many bytes 21 is never the answer.
use Rattle.std.specs.Prelude.{ℕ, ◌+◌, ◌/◌, ◌≤◌, ◌<◌, ◌≡◌, refl, List, length, take, ℤ, Result, Ok, Err}
use Rattle.std.proofs.Common.{arith}
use Rattle.std.proofs.Math.Seq.{take-append_seam}
use Rattle.rules.specs.declared.StreamInfo.{StreamInfo}
use Rattle.rules.specs.declared.PackingSettings.{PackingSettings}
use Rattle.rules.specs.declared.Refusal.{Refusal}
use Rattle.rules.specs.declared.Refusal.TheVariants.{Bytes}
use Rattle.rules.specs.Writer.{settings_used, bit_limit, packet_bytes, bytes_after}
use Rattle.laws.specs.Buffers.{laid-all}
use Rattle.laws.specs.Writer.{Writable, samples_of, packet_bytes_limit}
use Rattle.enc.specs.Promise.{Promise}
use Rattle.theorems.specs.Refused.{Cause, short_bytes, all_hold, refused_when}

-- the passage could be written, and the first n bytes are its packet
pub record Wrote (s : StreamInfo) (t : PackingSettings) (passage : List ℤ) (bytes' : List ℕ) (n : ℕ) : Type 0 where
  pub writable : Writable s t passage
  pub count : n ≡ length (packet_bytes s t passage)
  pub packet : take n bytes' ≡ packet_bytes s t passage

module _ {s : StreamInfo} {t : PackingSettings} {passage : List ℤ} (mb_byte : s.mb < 256) {bytes bytes' : List ℕ} {scr scr' : List ℤ} where
  pub wrote : {n : ℕ} → Promise s t passage bytes bytes' scr scr' (Ok n) → Wrote s t passage bytes' n
  unfolding bytes_after
  wrote {n} promise = by ((refused_when promise (Ok n)).0 refl) promise
    where
      by : {n : ℕ} → Cause s t passage (length bytes) (length scr) (Ok n) → Promise s t passage bytes bytes' scr scr' (Ok n) → Wrote s t passage bytes' n
      by (all_hold f g h i j) promise = record {
        writable = record { mb_byte = mb_byte; reader = f; ranges = h; fits = i };
        count = refl;
        packet = rw (promise.output, ← promise.answer, laid-all (packet_bytes s t passage) bytes j) (take-append_seam _ _);
      }

  pub within_limit : {n : ℕ} → Promise s t passage bytes bytes' scr scr' (Ok n) → n ≤ (bit_limit (samples_of s passage) (settings_used s t) + 7) / 8
  within_limit promise = let w = wrote promise in omega (arith, w.count, packet_bytes_limit s t passage w.writable)

  pub never_short : {r : Result ℕ Refusal} → Promise s t passage bytes bytes' scr scr' r → (bit_limit (samples_of s passage) (settings_used s t) + 7) / 8 ≤ length bytes
      → r ≡ Err Bytes → ⊥
  never_short promise long e = by ((refused_when promise (Err Bytes)).0 e)
    where
      by : Cause s t passage (length bytes) (length scr) (Err Bytes) → ⊥
      by (short_bytes f g h i j) =
          omega (arith, packet_bytes_limit s t passage (record { mb_byte = mb_byte; reader = f; ranges = h; fits = i }))
