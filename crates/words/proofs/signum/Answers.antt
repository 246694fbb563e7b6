-- As the library has it.
use mathlib.Core.Path.{◌∙◌}
use mir.Facts.{to_z-of_z}
use Rattle.words.proofs.Laws.{held32, sign_is}
use Rattle.words.proofs.signum.Goals as goal

pub returns : goal.returns
returns c = held32 _ c.signum.type_inv ∙ (rw (to_z-of_z c.ranges.x) at c.signum.ensures.value) ∙ sign_is c.args.x
