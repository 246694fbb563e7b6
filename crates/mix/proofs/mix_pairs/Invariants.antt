-- What is mixed and what the rule makes of the pairs that are left is what it makes of all.
use Rattle.mix.proofs.PassageTurns.{Filling, mixed_from, mixed_lane}
use Rattle.mix.proofs.mix_pairs.Given as goal

abbrev pub invariant-loop-i : goal.invariant-loop-i
invariant-loop-i l = Filling (mixed_lane l.mix_bits l.mix_res l.which l.passage) (mixed_from l.mix_bits l.mix_res l.which l.passage) l.initial.out l.out l.i
