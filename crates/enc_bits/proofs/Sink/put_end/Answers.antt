-- END goes out, and the zeros that are left to the edge.
use native.Mathlib.Omega.{arith}
use lib.Pow.{pow_pos}
use Rattle.enc_bits.proofs.Around.{next_ready, sent_end}
use Rattle.enc_bits.proofs.Sink.put_end.Goals as goal

pub put-requires-2 : goal.put-requires-2
put-requires-2 c = record { ready = next_ready 3 7 c.requires c.put.ensures (omega arith); len_le = omega arith; small = pow_pos _ }

pub returns : goal.returns
returns c = sent_end c.put.ensures c.put-2.ensures
