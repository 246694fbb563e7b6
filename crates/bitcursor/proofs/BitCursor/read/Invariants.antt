-- `read` meets its contract. The loop's invariant: the value so far is the number that the bits so far write.
use Prim.Native.Nat.{◌+◌, ◌*◌, ◌≤◌}
use mathlib.Core.Path.{◌≡◌}
use lib.ListN.{length, take, drop}
use Rattle.rules.specs.Bits.{num, bits_of}
use Rattle.bitcursor.proofs.BitCursor.read.Given as goal

abbrev pub invariant-loop-i : goal.invariant-loop-i
invariant-loop-i l =
    let c = l.self-inside in
    let at = c.byte * 8 + c.bit in
    (l.v ≡ num (take l.i (drop at (bits_of c.packet.now)))) × (at + l.bits ≤ length c.packet.now * 8)
