-- As the library has it.
use mathlib.Core.Path.{◌∙◌}
use native.Mathlib.Nat.{mod-eq_of_lt}
use mir.Syntax.{w32}
use Rattle.rules.specs.Words.{wrap, mod_z}
use Rattle.words.proofs.Laws.{held32, number_is}
use Rattle.words.proofs.number_of.Goals as goal

pub returns : goal.returns
unfolding wrap mod_z
returns c =
    let small = c.ranges.u.fits in
    held32 _ c.cast_signed.type_inv ∙ c.cast_signed.ensures ∙ rw (mod-eq_of_lt small) (number_is w32 c.args.u small)
