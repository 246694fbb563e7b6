-- What the rules still read from here makes what they read from the start; each element lies further on.
use Prim.Native.Nat.{◌-◌}
use lib.ListN.{length}
use Rattle.dec.proofs.Whole.{Reading}
use Rattle.dec.proofs.read_all.Given as goal

abbrev pub invariant-loop-element : goal.invariant-loop-element
invariant-loop-element g l = Reading g.S.Sample.output l.s l.initial.bits l.initial.out l.initial.scratch l.out l.scratch l.st l.bits

abbrev pub decreases-loop-element : goal.decreases-loop-element
decreases-loop-element g l = length l.bits.bits - l.bits.at
