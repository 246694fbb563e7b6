-- The loop's invariant: the coefficients from `j` on are in place, and the rules go on to read the others here.
use Rattle.bitcursor.proofs.Laws.{exit, read_lt}
use Rattle.words.proofs.Laws.{held16}
use Rattle.dec_header.proofs.PlanSteps.{filling_start, filling_next, filling_short, filling_done}
use Rattle.dec_header.proofs.plan.read_coefs.Goals as goal

pub loop-j-init : goal.loop-j-init
loop-j-init c = filling_start c.requires

pub returns-in_err-read-clause-reads : goal.returns-in_err-read-clause-reads
returns-in_err-read-clause-reads c =
    let e = exit _ c.from_residual.ensures.1 in
    rw e (filling_short c.loop-j-test.true c.loop-j.invariant c.read.ensures c.in_err-read.was)

pub coef_of-requires : goal.coef_of-requires
coef_of-requires c = read_lt 16 c.read.ensures c.in_ok-read.was

pub loop-j-preserved : goal.loop-j-preserved
loop-j-preserved c =
    rw (held16 c.coef_of.result c.coef_of.type_inv, c.coef_of.ensures)
    (filling_next c.requires c.loop-j-test.true c.loop-j.invariant c.read.ensures c.in_ok-read.was)

pub returns-clause-reads : goal.returns-clause-reads
returns-clause-reads c = filling_done c.loop-j.invariant c.loop-j-test.false
