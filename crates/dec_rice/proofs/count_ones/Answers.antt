-- One bit after the other: the ones that were counted, and the rest of nine.
use Rattle.bitcursor.proofs.Laws.{exit}
use Rattle.dec_rice.proofs.Symbols.{counted_none, counted_cut, counted_end, counted_next, counted_all}
use Rattle.dec_rice.proofs.count_ones.Goals as goal

pub loop-q-init : goal.loop-q-init
loop-q-init c = counted_none

pub returns-in_err-read_bit : goal.returns-in_err-read_bit
returns-in_err-read_bit c = rw (exit _ c.from_residual.ensures.1) (counted_cut c.loop-q.invariant c.loop-q-test.true c.read_bit.ensures c.in_err-read_bit.was)

pub returns-then-branch-eq0 : goal.returns-then-branch-eq0
returns-then-branch-eq0 c = counted_end c.loop-q.invariant c.loop-q-test.true c.read_bit.ensures c.in_ok-read_bit.was c.if-branch-eq0.true

pub loop-q-preserved : goal.loop-q-preserved
loop-q-preserved c = counted_next c.loop-q.invariant c.loop-q-test.true c.read_bit.ensures c.in_ok-read_bit.was c.if-branch-eq0.false

pub returns : goal.returns
returns c = counted_all c.loop-q.invariant c.loop-q-test.false
