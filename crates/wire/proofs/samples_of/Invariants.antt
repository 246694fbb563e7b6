-- The first i samples are read after i turns.
use Rattle.wire.proofs.Laws.{Reading}
use Rattle.wire.proofs.samples_of.Given as goal

abbrev pub invariant-loop-i : goal.invariant-loop-i
invariant-loop-i l = Reading l.bytes l.samples l.i
