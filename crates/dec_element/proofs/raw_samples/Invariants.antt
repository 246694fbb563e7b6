-- Each turn reads a row; the rows done, before what the rule makes of the rest, are what it makes of all.
use Rattle.dec_element.proofs.Raw.{Filling}
use Rattle.dec_element.proofs.raw_samples.Given as goal

abbrev pub invariant-loop-i : goal.invariant-loop-i
invariant-loop-i l = Filling l.s.bit_depth l.s.frame_length l.n l.channels l.initial.bits l.bits l.initial.scratch l.scratch l.i
