-- The first i places are cleared after i turns.
use Rattle.buffers.proofs.Laws.{Clearing}
use Rattle.buffers.proofs.clear.Given as goal

abbrev pub invariant-loop-i : goal.invariant-loop-i
invariant-loop-i g l = Clearing g.S.Sample.output.silence l.n l.initial.s l.s l.i
