-- What is done, and what the rules read from here, is the whole.
use Rattle.std.proofs.Common.{length}
use Rattle.dec_rice.proofs.Loop.{Going}
use Rattle.dec_rice.proofs.read_samples.Given as goal

abbrev pub invariant-loop-i : goal.invariant-loop-i
invariant-loop-i l = Going l.c (length l.initial.buf) l.mb l.initial.bits l.bits l.buf l.state l.i
