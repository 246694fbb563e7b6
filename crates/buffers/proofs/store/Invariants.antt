-- The samples that are left, placed from here, make what all of them make from the start.
use Rattle.std.proofs.Common.{pos}
use Rattle.buffers.proofs.Laws.{Storing}
use Rattle.buffers.proofs.store.Given as goal

abbrev pub invariant-loop-i : goal.invariant-loop-i
invariant-loop-i g l = Storing (g.S.Sample.output.keep l.depth) (pos 0) l.channels l.first l.from l.initial.out l.out l.i
