-- `channels_in_range` meets its contract: each channel that is there is judged.
use Rattle.rules.specs.Writer.{channel_in_range}
use Rattle.enc.proofs.Ranges.{all_used}
use Rattle.enc.proofs.channels_in_range.Goals as goal

pub returns : goal.returns
returns c = rw (c.channel_in_range-first.ensures, c.channel_in_range-second.ensures) (all_used (channel_in_range c.args.s) c.args.s.num_channels c.args.t.first c.args.t.second)
