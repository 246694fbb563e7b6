-- By the rule's two cases.
use mathlib.Core.Path.{sym, ◌∙◌}
use native.Mathlib.Omega.{arith}
use lib.ListN.{get_or}
use lib.IntN.{pos}
use Rattle.words.proofs.Laws.{held32}
use Rattle.lpc.proofs.Residuals.{residual-first, residual-later}
use Rattle.lpc.proofs.residual_at.Goals as goal

pub returns-then-i-eq0 : goal.returns-then-i-eq0
returns-then-i-eq0 c =
    held32 _ c.result-1.given
    ∙ sym (residual-first c.args.bps c.args.lpc_quant c.args.i c.args.buf.now c.args.lpc_coefs.now c.if-i-eq0.true)

pub returns : goal.returns
returns c =
    cc (
      held32 c.sign_extend.result c.sign_extend.type_inv,
      held32 c.wrapping_sub_i32-difference.result c.wrapping_sub_i32-difference.type_inv,
      held32 (get_or c.args.buf.now c.args.i (pos 0)) c.wrapping_sub_i32-arg-1.given,
      held32 c.forecast_at-predicted.result c.forecast_at-predicted.type_inv,
      residual-later c.args.bps c.args.lpc_quant c.args.i c.args.buf.now c.args.lpc_coefs.now c.requires.ready.within (omega (arith, c.if-i-eq0.false)),
    )
