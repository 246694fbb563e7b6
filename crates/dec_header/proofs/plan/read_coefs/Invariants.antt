-- The loop's invariant: the coefficients from `j` on are in place, and the rules go on to read the others here.
use Rattle.dec_header.proofs.PlanSteps.{Filling}
use Rattle.dec_header.proofs.plan.read_coefs.Given as goal

abbrev pub invariant-loop-j : goal.invariant-loop-j
invariant-loop-j l = Filling l.order l.fn.bits l.coefs l.j l.bits
