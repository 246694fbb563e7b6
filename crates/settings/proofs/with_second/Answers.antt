-- Two fields, then the first channel.
use borrow.Author.Rules.{part_to_end}
use Rattle.settings.specs.Flat.{with_second}
use Rattle.settings.proofs.with_second.Goals as goal

pub returns : goal.returns
unfolding with_second
returns c =
    rw (c.channel_of.ensures, part_to_end, c.field_at.ensures, c.field_at-2.ensures)
