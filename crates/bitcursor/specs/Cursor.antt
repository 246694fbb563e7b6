-- A reader of bits as its callers see it.
use Rattle.std.specs.Prelude.{ℕ, List}
use Rattle.laws.specs.Bytes.{Binary}

-- the bits of the packet, each 0 or 1, and the number of the next one
pub record Cursor : Type 0 where
  pub bits : List ℕ
  pub at : ℕ
  pub binary : Binary bits
