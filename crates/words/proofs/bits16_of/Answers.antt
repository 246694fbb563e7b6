-- As the library has it.
use mathlib.Core.Path.{◌∙◌}
use mir.Syntax.{w16}
use mir.Facts.{to_z-of_z}
use Rattle.words.proofs.Laws.{bits_are}
use Rattle.words.proofs.bits16_of.Goals as goal

pub returns : goal.returns
returns c = c.from.ensures ∙ (rw (to_z-of_z c.ranges.c) at c.cast_unsigned.ensures) ∙ bits_are w16 c.args.c c.ranges.c
