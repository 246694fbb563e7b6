-- The first i samples are read after i turns.
use mathlib.Core.Path.{◌∙◌}
use native.Mathlib.Omega.{arith}
use Rattle.words.proofs.Laws.{held16}
use Rattle.wire.proofs.Laws.{sample_is, reading_next, reading_done}
use Rattle.wire.proofs.samples_of.Goals as goal

pub loop-i-preserved : goal.loop-i-preserved
loop-i-preserved c = reading_next _ _ _ c.loop-i.invariant _ (omega arith) (held16 _ c.from_le_bytes.type_inv ∙ c.from_le_bytes.ensures ∙ sample_is _ _ (c.type_inv.bytes _) (c.type_inv.bytes _))

pub returns : goal.returns
returns c = reading_done _ _ _ c.loop-i.invariant (omega arith)
