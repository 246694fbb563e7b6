-- Each turn makes one sample of left and right; what is done and what the rule makes of the rest is what it makes of all.
use Rattle.rules.specs.Mix.{right_of, left_of}
use Rattle.mix.proofs.ScratchTurns.{Unmixing}
use Rattle.mix.proofs.unmix_stereo.Given as goal

abbrev pub invariant-loop-i : goal.invariant-loop-i
invariant-loop-i l = Unmixing (left_of l.mix_bits l.mix_res) (right_of l.mix_bits l.mix_res) l.half l.n l.initial.scratch l.scratch l.i
