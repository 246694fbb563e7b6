-- The shift to the left by 32 and back leaves the low 32 bits.
use mathlib.Core.Path.{refl}
use mir.Syntax.{w32, w64}
use Rattle.words.proofs.Laws.{shift_cast}
use Rattle.words.proofs.low_i32.Goals as goal

pub returns : goal.returns
returns c = shift_cast w64 32 32 refl c.args.s c.ranges.s w32 refl
