-- `in_range` meets its contract: the tests are the rules', in their order.
use Rattle.rules.specs.Writer.{in_range}
use Rattle.enc.proofs.in_range.Goals as goal

pub returns : goal.returns
unfolding in_range
returns c = rw (c.channels_in_range-channels.ensures, c.mix_in_range-mix.ensures)
