-- As the library has it.
use mathlib.Core.Path.{◌∙◌}
use mir.Syntax.{w32}
use mir.Facts.{to_z-of_z}
use Rattle.words.proofs.Laws.{bits_are}
use Rattle.words.proofs.bits_of.Goals as goal

pub returns : goal.returns
returns c = (rw (to_z-of_z c.ranges.x) at c.cast_unsigned.ensures) ∙ bits_are w32 c.args.x c.ranges.x
