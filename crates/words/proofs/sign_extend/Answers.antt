-- The shift to the left by 32 - bits and back leaves the low bits.
use native.Mathlib.Omega.{arith}
use Prim.Native.Nat.{◌-◌}
use mir.Syntax.{w32}
use Rattle.words.proofs.Laws.{shift_back}
use Rattle.words.proofs.sign_extend.Goals as goal

pub returns : goal.returns
returns c =
    let b = c.args.bits in
    shift_back w32 b (32 - b) (omega (arith, c.requires)) c.args.val c.ranges.val
