-- The first i samples are written after i turns.
use Rattle.wire.proofs.Laws.{Writing}
use Rattle.wire.proofs.bytes_of.Given as goal

abbrev pub invariant-loop-i : goal.invariant-loop-i
invariant-loop-i l = Writing l.samples l.bytes l.i
