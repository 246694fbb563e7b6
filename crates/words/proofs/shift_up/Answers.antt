-- A product by a power of two, and `low_i32` wraps it.
use native.Mathlib.Omega.{arith}
use mir.Syntax.{w32, w64}
use mir.Facts.{to_z-of_z}
use Rattle.words.proofs.Laws.{wide, wrapped, one_bit, shifted_fits}
use Rattle.words.proofs.shift_up.Goals as goal

pub overflow_mul-x : goal.overflow_mul-x
overflow_mul-x c = rw (wide w32 w64 tt c.args.x c.ranges.x, one_bit w64 c.args.s (omega (arith, c.requires))) (shifted_fits c.args.x c.args.s c.ranges.x c.requires)

pub returns : goal.returns
returns c =
    wrapped w32 c.low_i32.result _ _ c.low_i32.ensures
    (rw (wide w32 w64 tt c.args.x c.ranges.x, one_bit w64 c.args.s (omega (arith, c.requires))) (to_z-of_z (shifted_fits c.args.x c.args.s c.ranges.x c.requires)))
