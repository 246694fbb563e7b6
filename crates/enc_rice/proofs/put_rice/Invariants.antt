-- `put_rice` meets its contract: what went out and the rules from here on are the rules from the start.
use Prim.Native.Nat.{◌-◌}
use lib.ListN.{length}
use Rattle.enc_rice.proofs.Turns.{Going}
use Rattle.enc_rice.proofs.put_rice.Given as goal

abbrev pub invariant-loop-i : goal.invariant-loop-i
invariant-loop-i l = Going l.c l.residuals l.mb l.initial.bytes l.bytes l.initial.sink l.sink l.history l.plus l.i

abbrev pub decreases-loop-i : goal.decreases-loop-i
decreases-loop-i l = length l.residuals - l.i
