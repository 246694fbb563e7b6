-- The bits are there, so the read is never short, and the sample takes them in.
use mathlib.Core.Path.{◌∙◌}
use native.Mathlib.Omega.{arith}
use lib.ListN.{get_or}
use lib.IntN.{pos}
use Rattle.words.proofs.Laws.{held32}
use Rattle.mix.proofs.ScratchTurns.{never_short, takes_in}
use Rattle.mix.proofs.append_at.Goals as goal

pub unwrap-low-requires : goal.unwrap-low-requires
unwrap-low-requires c = never_short _ c.read.ensures c.requires.there

pub returns : goal.returns
returns c =
    let x = get_or c.args.scratch.now c.args.k (pos 0) in
    takes_in _ c.read.ensures _ _ c.unwrap-low.ensures (held32 c.extend.result c.extend.type_inv ∙ (rw (held32 x (omega arith)) at c.extend.ensures))
