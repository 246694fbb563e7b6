-- A short read leaves scratch as it was; a value is stored.
use mathlib.Core.Path.{◌∙◌}
use Rattle.bitcursor.proofs.Laws.{read_lt, exit}
use Rattle.words.proofs.Laws.{held32}
use Rattle.dec_element.proofs.Raw.{stores_cut, stores_value}
use Rattle.dec_element.proofs.raw_at.Goals as goal

pub returns-in_err-v : goal.returns-in_err-v
returns-in_err-v c = stores_cut _ _ _ c.read.ensures c.in_err-v.was (exit _ c.from_residual.ensures.1)

pub raw_of-requires : goal.raw_of-requires
raw_of-requires c =
    record { depth_ge = c.requires.depth_ge; depth_le = c.requires.depth_le; value_lt = read_lt _ c.read.ensures c.in_ok-v.was }

pub returns : goal.returns
returns c = stores_value _ _ _ c.read.ensures c.in_ok-v.was (held32 c.raw_of.result c.raw_of.type_inv ∙ c.raw_of.ensures)
