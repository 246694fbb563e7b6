-- The output is judged, and scratch.
use mathlib.Core.Path.{refl}
use Rattle.rules.specs.Reader.{roomy}
use Rattle.dec.proofs.roomy.Goals as goal

pub returns : goal.returns
unfolding roomy
returns c = refl
