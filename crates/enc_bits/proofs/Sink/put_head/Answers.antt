-- The fields up to the count in one number, the rest in another.
use native.Mathlib.Omega.{arith}
use Rattle.enc_bits.proofs.Sent.{sent_sent}
use Rattle.enc_bits.proofs.Around.{next_ready, head_partial, head_full}
use Rattle.enc_bits.proofs.Sink.put_head.Goals as goal

pub put-requires-then-n-frame : goal.put-requires-then-n-frame
put-requires-then-n-frame c =
    record { ready = next_ready 23 _ c.requires.sink c.put.ensures (omega arith); len_le = omega arith; small = omega arith }

pub returns-then-n-frame : goal.returns-then-n-frame
returns-then-n-frame c = rw (head_partial c.requires c.args.n c.args.frame c.if-n-frame.true) (sent_sent _ _ c.put.ensures c.put-then-n-frame.ensures)

pub put-requires-else-n-frame-2 : goal.put-requires-else-n-frame-2
put-requires-else-n-frame-2 c =
    record { ready = next_ready 23 _ c.requires.sink c.put-else-n-frame.ensures (omega arith); len_le = omega arith; small = omega arith }

pub returns-else-n-frame : goal.returns-else-n-frame
returns-else-n-frame c = rw (head_full c.requires c.args.n c.args.frame c.if-n-frame.false) (sent_sent _ _ c.put-else-n-frame.ensures c.put-else-n-frame-2.ensures)
