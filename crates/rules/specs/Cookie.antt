-- Document 01, "Cookie".
use Rattle.std.specs.Prelude.{ℕ, ◌+◌, ◌*◌, ◌^◌, List, [], ◌∷◌, length, take, drop, leb, eqb, Result, Ok, Err}
use Rattle.rules.specs.declared.StreamInfo.{StreamInfo}
use Rattle.rules.specs.declared.Refusal.{Refusal}
use Rattle.rules.specs.declared.Refusal.TheVariants.{Cookie}
use Rattle.rules.specs.Answers.{pick}

-- bytes as a number, big-endian
unfoldable pub big_endian : List ℕ → ℕ
big_endian [] = 0
big_endian (x ∷ xs) = x * 256 ^ length xs + big_endian xs

-- the n bytes at `from`, as a number
abbrev pub bytes_at : List ℕ → ℕ → ℕ → ℕ
bytes_at c from n = big_endian (take n (drop from c))

-- `frma` and `alac` as numbers
abbrev pub frma : ℕ
frma = 0x66726D61

abbrev pub alac : ℕ
alac = 0x616C6163

-- if bytes 4..8 are the name, skip 12 bytes
unfoldable pub past_atom : ℕ → List ℕ → List ℕ
past_atom name c = pick (eqb (bytes_at c 4 4) name) (drop 12 c) c

-- first `frma`, then `alac`
abbrev pub past_atoms : List ℕ → List ℕ
past_atoms c = past_atom alac (past_atom frma c)

-- the fields, in order; bytes beyond are ignored
abbrev pub info_of : List ℕ → StreamInfo
info_of c = record {
  frame_length = bytes_at c 0 4;
  compatible_version = bytes_at c 4 1;
  bit_depth = bytes_at c 5 1;
  pb = bytes_at c 6 1;
  mb = bytes_at c 7 1;
  kb = bytes_at c 8 1;
  num_channels = bytes_at c 9 1;
  max_run = bytes_at c 10 2;
  max_frame_bytes = bytes_at c 12 4;
  avg_bit_rate = bytes_at c 16 4;
  sample_rate = bytes_at c 20 4;
}

-- 24 bytes at least, or cause 1
unfoldable pub from24 : List ℕ → Result StreamInfo Refusal → Result StreamInfo Refusal
from24 c answer = pick (leb 24 (length c)) answer (Err Cookie)

-- before and after the atoms are skipped
unfoldable pub from_cookie : List ℕ → Result StreamInfo Refusal
from_cookie c = from24 c (from24 (past_atoms c) (Ok (info_of (past_atoms c))))
