-- Of the sixteen counts one is refused.
use Prim.Native.Nat.{◌≤◌}
use mathlib.Core.Path.{refl}
use native.Mathlib.Omega.{arith}
use borrow.Author.Tests.{le-leb}
use Rattle.rules.specs.Packet.{fill_element}
use Rattle.bitcursor.proofs.Laws.{then, then_not, holds, fails, exit, read_lt}
use Rattle.dec_packet.proofs.fill_element.Goals as goal

pub returns-in_err-bytes : goal.returns-in_err-bytes
unfolding fill_element
returns-in_err-bytes c = then_not _ c.read.ensures c.in_err-bytes.was (exit _ c.from_residual.ensures.1)

pub returns-then-bytes-eq15 : goal.returns-then-bytes-eq15
unfolding fill_element
returns-then-bytes-eq15 c = then _ c.read.ensures c.in_ok-bytes.was (rw c.if-bytes-eq15.true (fails _ _ refl))

pub returns : goal.returns
unfolding fill_element
returns c =
    let l : c.in_ok-bytes.bytes ≤ 14 = omega (arith, c.if-bytes-eq15.false, read_lt 4 c.read.ensures c.in_ok-bytes.was) in
    then _ c.read.ensures c.in_ok-bytes.was (holds _ _ (le-leb _ 14 l) c.skip_bytes.ensures)
