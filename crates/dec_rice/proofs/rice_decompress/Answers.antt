-- The buffer is whole or it is cleared.
use Rattle.std.proofs.Common.{sym, ◌∙◌}
use Rattle.dec_rice.proofs.Laws.{met_whole, met_cleared}
use Rattle.dec_rice.proofs.rice_decompress.Goals as goal

pub returns-then-is_err : goal.returns-then-is_err
returns-then-is_err c =
    met_cleared _ c.read_samples-answer.ensures (sym c.is_err.ensures.value ∙ c.if-is_err.true) c.read_samples-answer.auto.buf c.clear.ensures

pub returns-else-is_err : goal.returns-else-is_err
returns-else-is_err c = met_whole _ c.read_samples-answer.ensures (sym c.is_err.ensures.value ∙ c.if-is_err.false)
