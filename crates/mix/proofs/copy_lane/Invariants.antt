-- What is copied and what is left of the lane make the lane.
use Rattle.rules.specs.Buffers.{lane}
use Rattle.mix.proofs.PassageTurns.{Filling, lane_from}
use Rattle.mix.proofs.copy_lane.Given as goal

abbrev pub invariant-loop-i : goal.invariant-loop-i
invariant-loop-i l = Filling (lane l.channels l.passage l.which) (lane_from l.channels l.which l.passage) l.initial.out l.out l.i
