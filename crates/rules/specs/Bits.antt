-- Document 01, "Bits": most significant first. In the rules a place is a bit's number from the packet's start.
use Rattle.std.specs.Prelude.{ℕ, zero, suc, ◌+◌, ◌-◌, ◌*◌, ◌/◌, ◌%◌, ◌^◌, List, [], ◌∷◌, ◌++◌, length, take, drop, replicate, leb}
use Rattle.rules.specs.declared.Place.{Place}
use Rattle.rules.specs.declared.Refusal.TheVariants.{Short}
use Rattle.rules.specs.Answers.{got, bad, pick, Read}

-- the bit's number of a place: a byte, and a bit in it
abbrev pub bit_of : Place → ℕ
bit_of at = at.byte * 8 + at.bit % 8

abbrev pub place_of : ℕ → Place
place_of p = record { byte = p / 8; bit = p % 8 }

-- the low n bits of v, most significant first
unfoldable pub digits : ℕ → ℕ → List ℕ
digits zero v = []
digits (suc n) v = (v / 2 ^ n % 2) ∷ digits n v

-- the number that bits write
unfoldable pub num : List ℕ → ℕ
num [] = 0
num (d ∷ ds) = d * 2 ^ length ds + num ds

-- the bits of bytes
unfoldable pub bits_of : List ℕ → List ℕ
bits_of [] = []
bits_of (x ∷ xs) = digits 8 x ++ bits_of xs

-- the first n bytes of bits
unfoldable pub bytes_of : ℕ → List ℕ → List ℕ
bytes_of zero w = []
bytes_of (suc n) w = num (take 8 w) ∷ bytes_of n (drop 8 w)

-- how far it is to the next byte edge: 0 on one
abbrev pub to_edge : ℕ → ℕ
to_edge p = (8 - p % 8) % 8

-- zero bits to the byte edge, as bytes
unfoldable pub padded : List ℕ → List ℕ
padded w = bytes_of ((length w + 7) / 8) (w ++ replicate (to_edge (length w)) 0)

module _ (bits : List ℕ) where
  module _ {A : Type 0} where
    -- n bits are passed, with a value; a short read or skip is refused, at the place where it began
    unfoldable pub within : ℕ → A → Read A
    within n v p = pick (leb (p + n) (length bits)) (got v (p + n)) (bad Short p)

  -- the plain bit string of n bits
  abbrev pub field : ℕ → Read ℕ
  field n p = within n (num (take n (drop p bits))) p

  abbrev pub skip : ℕ → Read (Unit {0})
  skip n = within n tt

  -- to the next byte edge, or stays on one
  abbrev pub skip_to_byte : Read (Unit {0})
  skip_to_byte p = skip (to_edge p) p
