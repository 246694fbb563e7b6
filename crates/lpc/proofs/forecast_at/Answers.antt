-- By the rule's two cases.
use mathlib.Core.Path.{sym, ◌∙◌}
use Rattle.words.proofs.Laws.{held32}
use Rattle.lpc.proofs.Steps.{mean_at, forecast_early, forecast_late}
use Rattle.lpc.proofs.forecast_at.Goals as goal

pub returns-then-i-lpc_order : goal.returns-then-i-lpc_order
returns-then-i-lpc_order c =
    held32 _ c.result-1.given
    ∙ sym (forecast_early c.args.lpc_quant c.args.i c.args.buf.now c.args.lpc_coefs.now c.requires.ready.within c.if-i-lpc_order.true c.requires.after)

pub returns : goal.returns
returns c =
    cc (
      held32 c.wrapping_add_i32.result c.wrapping_add_i32.type_inv,
      held32 c.predict_from-predicted.result c.predict_from-predicted.type_inv,
      held32 (mean_at c.args.i c.args.buf.now c.args.lpc_coefs.now) c.mean-1.given,
      forecast_late c.args.lpc_quant c.args.i c.args.buf.now c.args.lpc_coefs.now c.requires.ready.within c.if-i-lpc_order.false,
    )
