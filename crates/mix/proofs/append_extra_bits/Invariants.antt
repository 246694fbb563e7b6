-- Each turn reads the extra bits of one sample of each channel; what is done and what the rule makes of the rest is what it makes of all.
use Rattle.mix.proofs.ScratchTurns.{Appending}
use Rattle.mix.proofs.append_extra_bits.Given as goal

abbrev pub invariant-loop-i : goal.invariant-loop-i
invariant-loop-i l = Appending l.initial.extra l.half l.n l.shift l.channels l.initial.scratch l.scratch l.extra l.i
