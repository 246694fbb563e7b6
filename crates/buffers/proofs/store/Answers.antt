-- The samples that are left, placed from here, make what all of them make from the start.
use native.Mathlib.Omega.{arith}
use Rattle.std.proofs.Common.{w32}
use Rattle.std.proofs.lemmas.Int.{to_z-of_z}
use Rattle.buffers.proofs.Laws.{storing_start, storing_next, storing_done}
use Rattle.buffers.proofs.store.Goals as goal

pub loop-i-init : goal.loop-i-init
loop-i-init g c = storing_start _ _ _ _ _ _

pub loop-i-preserved : goal.loop-i-preserved
loop-i-preserved g c = storing_next _ _ _ _ _ _ _ _ c.loop-i.invariant _ (omega arith) (rw (to_z-of_z w32 _ (record { sfits = c.keep-arg-1.given })) at c.keep.ensures)

pub returns : goal.returns
returns g c = storing_done _ _ _ _ _ _ _ _ c.loop-i.invariant (omega arith)
