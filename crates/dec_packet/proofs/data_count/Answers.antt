-- A second byte is read after 255 and only then.
use native.Mathlib.Omega.{arith}
use borrow.Author.Tests.{eq-eqb, ne_eqb}
use Rattle.rules.specs.Packet.{data_count}
use Rattle.bitcursor.proofs.Laws.{then, then_not, gives, exit, read_lt}
use Rattle.dec_packet.proofs.data_count.Goals as goal

pub returns-in_err-count : goal.returns-in_err-count
unfolding data_count
returns-in_err-count c = then_not _ c.read.ensures c.in_err-count.was (exit _ c.from_residual.ensures.1)

pub returns-then-count-ne255 : goal.returns-then-count-ne255
unfolding data_count
returns-then-count-ne255 c = then _ c.read.ensures c.in_ok-count.was (rw (ne_eqb _ 255 c.if-count-ne255.true) gives)

pub returns-in_err-more : goal.returns-in_err-more
unfolding data_count
returns-in_err-more c =
    then _ c.read.ensures c.in_ok-count.was (rw (eq-eqb _ 255 c.if-count-ne255.false) (then_not _ c.read-2.ensures c.in_err-more.was (exit _ c.from_residual-in_err-more.ensures.1)))

pub overflow_add-result : goal.overflow_add-result
overflow_add-result c = omega (arith, c.if-count-ne255.false, read_lt 8 c.read-2.ensures c.in_ok-more.was)

pub returns : goal.returns
unfolding data_count
returns c = then _ c.read.ensures c.in_ok-count.was (rw (eq-eqb _ 255 c.if-count-ne255.false) (then _ c.read-2.ensures c.in_ok-more.was gives))
