-- The numbers of the bytes before `at` are read, and the rules read on from here.
use Rattle.text.proofs.Laws.{Going}
use Rattle.text.proofs.numbers_of.Given as goal

abbrev pub invariant-loop-at : goal.invariant-loop-at
invariant-loop-at l = Going l.text l.initial.numbers l.numbers l.state l.at
