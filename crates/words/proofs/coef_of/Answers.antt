-- As the library has it.
use mathlib.Core.Path.{◌∙◌}
use mir.Syntax.{w16}
use Rattle.words.proofs.Laws.{held16, number_is}
use Rattle.words.proofs.coef_of.Goals as goal

pub returns : goal.returns
returns c = held16 _ c.cast_signed.type_inv ∙ c.cast_signed.ensures ∙ number_is w16 c.args.v c.requires
