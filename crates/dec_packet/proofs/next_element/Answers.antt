-- A refusal's scratch is cleared, any other is as it was kept.
use mathlib.Core.Path.{sym, ◌∙◌}
use Rattle.dec_packet.proofs.Laws.{turned_on, turned_refused}
use Rattle.dec_packet.proofs.next_element.Goals as goal

pub returns-then-is_err : goal.returns-then-is_err
returns-then-is_err c = turned_refused c.tagged_element-element.ensures (sym c.is_err.ensures.value ∙ c.if-is_err.true) c.clear.ensures

pub returns-else-is_err : goal.returns-else-is_err
returns-else-is_err c = turned_on c.tagged_element-element.ensures (sym c.is_err.ensures.value ∙ c.if-is_err.false)
