-- `channel_in_range` meets its contract: the tests are the rules', in their order.
use mathlib.Core.Path.{refl}
use Rattle.rules.specs.Writer.{channel_in_range}
use Rattle.enc.proofs.channel_in_range.Goals as goal

pub returns : goal.returns
unfolding channel_in_range
returns c = refl
