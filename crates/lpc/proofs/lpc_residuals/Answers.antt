-- The residuals so far, and what the rules make of the rest from here, are the whole.
use native.Mathlib.Omega.{arith}
use lib.ListN.{length-set}
use Rattle.words.proofs.Laws.{held32}
use Rattle.lpc.proofs.Residuals.{leaving_next, leaving_done}
use Rattle.lpc.proofs.lpc_residuals.Goals as goal

pub loop-i-preserved : goal.loop-i-preserved
loop-i-preserved c =
    let e-is = rw (← held32 c.residual_at-residual.result c.residual_at-residual.type_inv) at c.residual_at-residual.ensures in (
      simp length-set (omega arith),
      omega (arith, c.adapt_at.auto),
      leaving_next _ _ _ _ _ _ _ _ c.loop-i.invariant.2 (omega arith) (omega arith) _ _ e-is c.adapt_at.ensures,
    )

pub returns : goal.returns
returns c = leaving_done _ _ _ _ _ _ _ _ c.loop-i.invariant.2 (omega arith) (omega arith)
