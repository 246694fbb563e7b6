-- The wrap at 32 bits before the one at the depth changes nothing.
use lib.IntN.{pos}
use Rattle.laws.specs.Words.{wrap_pos, wrap-wrap}
use Rattle.words.proofs.Laws.{held32}
use Rattle.dec_element.proofs.raw_of.Goals as goal

pub returns : goal.returns
returns c =
    let v = c.args.v in
    let depth = c.args.depth in
    cc (
      held32 c.sign_extend.result c.sign_extend.type_inv,
      held32 c.number_of.result c.number_of.type_inv,
      wrap-wrap depth 32 (pos v) c.requires.depth_le,
      wrap_pos depth v c.requires.value_lt,
    )
