-- Four bytes, the highest first.
use mathlib.Core.Path.{◌∙◌}
use native.Mathlib.Omega.{arith}
use Rattle.laws.specs.Bytes.{be_four}
use Rattle.wire.proofs.length_of.Goals as goal

pub returns : goal.returns
returns c = c.from_be_bytes.ensures ∙ be_four c.args.front (omega arith)
