-- The raw form: a packet's length stands in front of it, and samples lie as bytes.
use Rattle.std.specs.Prelude.{ℕ, ◌+◌, ◌*◌, ◌/◌, ◌%◌, ◌^◌, List, [], ◌∷◌, ℤ}
use Rattle.rules.specs.Cookie.{big_endian}
use Rattle.rules.specs.Words.{mod_z, signed}

-- big-endian, as the cookie's fields
abbrev pub length_of : List ℕ → ℕ
length_of front = big_endian front

-- 32 bits, the highest byte first
abbrev pub front_of : ℕ → List ℕ
front_of n = (n / 0x1000000 % 256) ∷ (n / 0x10000 % 256) ∷ (n / 0x100 % 256) ∷ (n % 256) ∷ []

-- 16 bits, the low byte first; a last byte alone is no sample
unfoldable pub samples_of : List ℕ → List ℤ
samples_of [] = []
samples_of (low ∷ []) = []
samples_of (low ∷ (high ∷ bytes)) = signed 16 (high * 256 + low) ∷ samples_of bytes

unfoldable pub bytes_of : List ℤ → List ℕ
bytes_of [] = []
bytes_of (x ∷ xs) = (mod_z (2 ^ 16) x % 256) ∷ (mod_z (2 ^ 16) x / 256) ∷ bytes_of xs
