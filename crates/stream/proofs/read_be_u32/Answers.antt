-- The bytes, the highest first.
use mathlib.Core.Path.{◌∙◌}
use Rattle.laws.specs.Bytes.{be_four}
use Rattle.stream.proofs.read_be_u32.Goals as goal

pub returns : goal.returns
returns c = c.from_be_bytes.ensures ∙ be_four c.args.buf.now c.requires
