-- Bytes that were only measured.
use Prim.Native.Nat.{ℕ}
use mathlib.Core.Path.{◌≡◌}
use mathlib.Core.List.{List, [], ◌++◌}
use native.Mathlib.Omega.{arith}
use lib.ListN.{length, take, drop, drop_of_length-le}
use Rattle.rules.specs.Buffers.{laid}

-- a packet in no places changes nothing
pub measured : (w was : List ℕ) {is : List ℕ} → is ≡ laid w (take 0 was) → is ++ drop 0 was ≡ was
unfolding laid
measured w was e = rw (e, drop_of_length-le {A = ℕ} [] {i = length w} (omega arith))
