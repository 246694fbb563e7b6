-- Each field follows the one before.
use Rattle.rules.specs.Packet.{data_element}
use Rattle.bitcursor.proofs.Laws.{then, then_not, exit}
use Rattle.dec_packet.proofs.data_element.Goals as goal

pub returns-in_err-_instance : goal.returns-in_err-_instance
unfolding data_element
returns-in_err-_instance c = then_not _ c.read.ensures c.in_err-_instance.was (exit _ c.from_residual.ensures.1)

pub returns-in_err-asked : goal.returns-in_err-asked
unfolding data_element
returns-in_err-asked c =
    then _ c.read.ensures c.in_ok-_instance.was (then_not _ c.read_bit.ensures c.in_err-asked.was (exit _ c.from_residual-in_err-asked.ensures.1))

pub returns-in_err-bytes : goal.returns-in_err-bytes
unfolding data_element
returns-in_err-bytes c =
    then _ c.read.ensures c.in_ok-_instance.was
    (then _ c.read_bit.ensures c.in_ok-asked.was (then_not _ c.data_count.ensures c.in_err-bytes.was (exit _ c.from_residual-in_err-bytes.ensures.1)))

pub returns : goal.returns
unfolding data_element
returns c = then _ c.read.ensures c.in_ok-_instance.was (then _ c.read_bit.ensures c.in_ok-asked.was (then _ c.data_count.ensures c.in_ok-bytes.was c.data_bytes.ensures))
