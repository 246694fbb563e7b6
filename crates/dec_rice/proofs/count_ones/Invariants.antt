-- The ones that were counted, and the rest of nine.
use Rattle.dec_rice.proofs.Symbols.{Counted}
use Rattle.dec_rice.proofs.count_ones.Given as goal

abbrev pub invariant-loop-q : goal.invariant-loop-q
invariant-loop-q l = Counted 9 l.initial.bits l.bits l.q
