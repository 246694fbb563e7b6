-- Three fields, then the coefficients.
use borrow.Author.Rules.{part_to_end}
use Rattle.settings.specs.Flat.{channel_of}
use Rattle.settings.proofs.channel_of.Goals as goal

pub returns : goal.returns
unfolding channel_of
returns c =
    rw (c.coefs_of.ensures, part_to_end, c.field_at.ensures, c.field_at-2.ensures, c.field_at-3.ensures)
