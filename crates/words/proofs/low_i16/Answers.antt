-- The shift to the left by 48 and back leaves the low 16 bits.
use mathlib.Core.Path.{refl}
use mir.Syntax.{w16, w64}
use Rattle.words.proofs.Laws.{shift_cast}
use Rattle.words.proofs.low_i16.Goals as goal

pub returns : goal.returns
returns c = shift_cast w64 16 48 refl c.args.s c.ranges.s w16 refl
