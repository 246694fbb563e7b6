-- What is filled lies within the places.
use Rattle.std.proofs.Common.{◌≤◌, length}
use Rattle.walk.proofs.input.read_full.Given as goal

abbrev pub invariant-loop : goal.invariant-loop
invariant-loop g l = l.done ≤ length l.places
