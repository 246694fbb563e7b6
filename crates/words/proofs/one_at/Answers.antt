-- A power of two below the sign's bit.
use mir.Syntax.{w32}
use Rattle.words.proofs.Laws.{one_bit}
use Rattle.words.proofs.one_at.Goals as goal

pub returns : goal.returns
returns c = one_bit w32 c.args.q c.requires
