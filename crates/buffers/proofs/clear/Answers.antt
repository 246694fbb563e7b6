-- The first i places are cleared after i turns.
use native.Mathlib.Omega.{arith}
use Rattle.buffers.proofs.Laws.{clearing_start, clearing_next, clearing_done}
use Rattle.buffers.proofs.clear.Goals as goal

pub loop-i-init : goal.loop-i-init
loop-i-init g c = clearing_start _ _ _

pub loop-i-preserved : goal.loop-i-preserved
loop-i-preserved g c = rw c.silence.ensures (clearing_next _ _ _ _ _ c.loop-i.invariant (omega arith) (omega arith))

pub returns : goal.returns
returns g c = clearing_done _ _ _ _ _ c.loop-i.invariant (omega arith)
