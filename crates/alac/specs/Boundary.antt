-- What the exported functions promise: a cookie is read first, and what it gives is handed on.
use Rattle.std.specs.Prelude.{ℕ, ◌≡◌, List, [], ◌∷◌, length, ℤ, Result, Ok, Err}
use Rattle.rules.specs.declared.StreamInfo.{StreamInfo}
use Rattle.rules.specs.declared.Decoded.{Decoded}
use Rattle.rules.specs.declared.Refusal.{Refusal}
use Rattle.rules.specs.declared.Refused.{Refused}
use Rattle.rules.specs.Refusals.{number, cookie_number, read_number, read_count, packed_number, packed_count}
use Rattle.rules.specs.Stream.{Width}
use Rattle.rules.specs.Cookie.{from_cookie}
use Rattle.rules.specs.Writer.{packed, bytes_after, pack_scratch_after}
use Rattle.settings.specs.Flat.{settings_of}
use Rattle.rules.specs.Reader.{decoded, answer_of, output_after, scratch_after}

-- the fields in StreamInfo's order
abbrev pub fields_of : StreamInfo → List ℕ
fields_of s =
    s.frame_length ∷ s.compatible_version ∷ s.bit_depth ∷ s.pb ∷ s.mb ∷ s.kb ∷ s.num_channels ∷ s.max_run ∷ s.max_frame_bytes ∷ s.avg_bit_rate ∷ s.sample_rate ∷ []

-- a refused cookie leaves them untouched
unfoldable pub fields_after : Result StreamInfo Refusal → List ℕ → List ℕ
fields_after (Ok s) was = fields_of s
fields_after (Err x) was = was

pub record Told (cookie : List ℕ) (was is : List ℕ) (r : ℕ) : Type 0 where
  pub number : r ≡ cookie_number (from_cookie cookie)
  pub fields : is ≡ fields_after (from_cookie cookie) was

-- number, count, and two places for later
abbrev pub answer_words : Result Decoded Refused → List ℕ
answer_words a = read_number a ∷ read_count a ∷ 0 ∷ 0 ∷ []

module _ {A : Type 0} (w : Width A) (packet : List ℕ) (out : List A) (scratch : List ℤ) where
  unfoldable pub number_after : Result StreamInfo Refusal → ℕ
  number_after (Ok s) = read_number (answer_of s (decoded w s packet (length out) (length scratch)))
  number_after (Err x) = number x

  unfoldable pub words_after : Result StreamInfo Refusal → List ℕ
  words_after (Ok s) = answer_words (answer_of s (decoded w s packet (length out) (length scratch)))
  words_after (Err x) = number x ∷ 0 ∷ 0 ∷ 0 ∷ []

  unfoldable pub output_left : Result StreamInfo Refusal → List A
  output_left (Ok s) = output_after w s out scratch packet
  output_left (Err x) = out

  unfoldable pub scratch_left : Result StreamInfo Refusal → List ℤ
  scratch_left (Ok s) = scratch_after w s out scratch
  scratch_left (Err x) = scratch

-- number, answer, output and scratch to the last place; a refused cookie changes neither output nor scratch
pub record Handed {A : Type 0} (w : Width A) (cookie packet : List ℕ) (out out' : List A) (scratch scratch' : List ℤ) (answer' : List ℕ) (r : ℕ) : Type 0 where
  pub number : r ≡ number_after w packet out scratch (from_cookie cookie)
  pub words : answer' ≡ words_after w packet out scratch (from_cookie cookie)
  pub output : out' ≡ output_left w packet out scratch (from_cookie cookie)
  pub room : scratch' ≡ scratch_left w packet out scratch (from_cookie cookie)

-- ---- the writer

module _ (flat passage : List ℤ) (bytes : List ℕ) (scratch : List ℤ) where
  -- a refused cookie is told first; the settings are read for the stream's channels
  unfoldable pub packed_after : Result StreamInfo Refusal → Result ℕ Refusal
  packed_after (Ok s) = packed s (settings_of s.num_channels flat) passage (length bytes) (length scratch)
  packed_after (Err x) = Err x

  unfoldable pub bytes_left : Result StreamInfo Refusal → List ℕ
  bytes_left (Ok s) = bytes_after s (settings_of s.num_channels flat) passage bytes (length scratch)
  bytes_left (Err x) = bytes

  unfoldable pub pack_scratch_left : Result StreamInfo Refusal → List ℤ
  pack_scratch_left (Ok s) = pack_scratch_after s (settings_of s.num_channels flat) passage scratch
  pack_scratch_left (Err x) = scratch

-- number, answer, bytes and scratch to the last place; a refused cookie changes neither bytes nor scratch
pub record Written (cookie : List ℕ) (flat passage : List ℤ) (bytes bytes' : List ℕ) (scratch scratch' : List ℤ) (answer' : List ℕ) (r : ℕ) : Type 0 where
  pub number : r ≡ packed_number (packed_after flat passage bytes scratch (from_cookie cookie))
  pub words : answer' ≡ packed_number (packed_after flat passage bytes scratch (from_cookie cookie)) ∷ packed_count (packed_after flat passage bytes scratch (from_cookie cookie)) ∷ 0 ∷ 0 ∷ []
  pub output : bytes' ≡ bytes_left flat passage bytes scratch (from_cookie cookie)
  pub room : scratch' ≡ pack_scratch_left flat passage bytes scratch (from_cookie cookie)

-- the words of an answer, and its number
pub record Worded (number count : ℕ) (words : List ℕ) (r : ℕ) : Type 0 where
  pub told : r ≡ number
  pub are : words ≡ number ∷ count ∷ 0 ∷ 0 ∷ []
