-- The bytes follow the edge, if it was asked for.
use Rattle.rules.specs.Packet.{data_bytes}
use Rattle.bitcursor.proofs.Laws.{then, then_not, exit}
use Rattle.dec_packet.proofs.data_bytes.Goals as goal

pub returns-in_err-align : goal.returns-in_err-align
unfolding data_bytes
returns-in_err-align c = then_not _ c.align.ensures c.in_err-align.was (exit _ c.from_residual.ensures.1)

pub returns : goal.returns
unfolding data_bytes
returns c = then _ c.align.ensures c.in_ok-align.was c.skip_bytes.ensures
