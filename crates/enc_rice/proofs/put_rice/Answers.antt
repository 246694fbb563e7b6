-- `put_rice` meets its contract: what went out and the rules from here on are the rules from the start.
use native.Mathlib.Omega.{arith}
use Rattle.enc_rice.proofs.Turns.{going_puts, going_next, going_done}
use Rattle.enc_rice.proofs.put_rice.Goals as goal

pub put_turn-requires : goal.put_turn-requires
put_turn-requires c = going_puts c.loop-i.invariant c.requires (omega arith) c.turn-t.ensures

pub loop-i-preserved : goal.loop-i-preserved
loop-i-preserved c =
    going_next c.loop-i.invariant c.requires c.loop-i-test.true c.turn-t.ensures c.put_turn.ensures

pub returns : goal.returns
returns c = going_done c.loop-i.invariant c.requires c.loop-i-test.false
