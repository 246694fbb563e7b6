-- What the parts of the program hold of each other: counts that lie within the places, and lengths that fit the stream.
use Rattle.std.specs.Prelude.{◌≡◌, ℕ, ◌*◌, ◌/◌, ◌≤◌, List, length, take, ℤ}
use Rattle.rules.specs.declared.StreamInfo.{StreamInfo}

-- n of the places, from their start; the second part follows from the first, and spares a lent part its proof
abbrev pub IsPrefixLen : ℕ → List ℕ → Type 0
IsPrefixLen n places = (n ≤ length places) × (n ≡ length (take n places))

-- no more numbers than there is room for, in as many places as before
abbrev pub Few : ℕ → List ℤ → List ℤ → Type 0
Few n was is = (n ≤ 68) × (length is ≡ length was)

-- the stream fits the memory of a run
pub record Small (s : StreamInfo) : Type 0 where
  pub frame_le : s.frame_length ≤ 4096
  pub channels_le : s.num_channels ≤ 8
  pub channels_ge : 1 ≤ s.num_channels

-- an even number of bytes, of no more than there are
pub record Pairs (most n : ℕ) : Type 0 where
  pub le : n ≤ most
  pub even : n ≡ 2 * (n / 2)
