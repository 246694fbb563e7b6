-- It moves only where it is asked to.
use Prim.Native.Nat.{suc, ◌-◌}
use mathlib.Core.Path.{◌≡◌}
use native.Mathlib.Omega.{arith}
use Rattle.rules.specs.Packet.{aligned}
use Rattle.bitcursor.proofs.Laws.{gives}
use Rattle.dec_packet.proofs.align.Goals as goal

pub returns-then-asked-eq0 : goal.returns-then-asked-eq0
unfolding aligned
returns-then-asked-eq0 c = rw c.if-asked-eq0.true gives

pub returns : goal.returns
unfolding aligned
returns c =
    let h : c.args.asked ≡ suc (c.args.asked - 1) = omega (arith, c.if-asked-eq0.false) in
    rw h c.skip_to_byte.ensures
