-- By the rule's three cases.
use mathlib.Core.Path.{sym}
use Rattle.words.proofs.Laws.{held32, zero_bits, nonzero_bits}
use Rattle.lpc.proofs.Steps.{mean_at, coefs_early, coefs_exact, coefs_late}
use Rattle.lpc.proofs.adapt_at.Goals as goal

pub returns-then-i-lpc_order : goal.returns-then-i-lpc_order
returns-then-i-lpc_order c =
    sym (coefs_early c.args.lpc_quant c.args.i c.args.buf.now c.args.lpc_coefs.now c.requires.within c.args.error c.if-i-lpc_order.true)

pub returns-then-error-eq0 : goal.returns-then-error-eq0
returns-then-error-eq0 c =
    let e = c.args.error in
    sym (coefs_exact c.args.lpc_quant c.args.i c.args.buf.now c.args.lpc_coefs.now c.requires.within e c.if-i-lpc_order.false (zero_bits e c.ranges.error.sfits c.if-error-eq0.true))

pub returns : goal.returns
returns c =
    let e = c.args.error in
    cc (
      c.adapt.ensures,
      held32 (mean_at c.args.i c.args.buf.now c.args.lpc_coefs.now) c.adapt-arg-2-1.given,
      held32 e c.ranges.error.sfits,
      coefs_late c.args.lpc_quant c.args.i c.args.buf.now c.args.lpc_coefs.now c.requires.within e c.if-i-lpc_order.false (nonzero_bits e c.if-error-eq0.false),
    )
