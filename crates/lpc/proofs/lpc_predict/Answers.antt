-- The samples so far, and what the rules make of the rest from here, are the whole.
use native.Mathlib.Omega.{arith}
use native.Mathlib.Nat.{le_refl}
use mathlib.Core.Path.{◌≡◌, refl, sym, ◌∙◌}
use lib.ListN.{get_or, take, length-set}
use lib.Seq.{take-set-le}
use lib.IntN.{pos}
use mir.Syntax.{w32}
use mir.Val.{to_z, of_z}
use Rattle.rules.specs.Words.{add32}
use Rattle.rules.specs.Prediction.{forecast, next}
use Rattle.words.proofs.Laws.{held32}
use Rattle.lpc.proofs.Steps.{next-later, going_start, going_next, going_done}
use Rattle.lpc.proofs.lpc_predict.Goals as goal

pub loop-i-init : goal.loop-i-init
loop-i-init c = (omega arith, refl, refl, going_start _ _ _ _)

pub loop-i-preserved : goal.loop-i-preserved
loop-i-preserved c =
    let buf = c.loop-i.buf in
    let i = c.loop-i.i in
    let cs = c.loop-i.lpc_coefs in
    let x = to_z w32 (of_z w32 c.sign_extend-extended.result) in
    let v-is : to_z w32 (of_z w32 (get_or buf i (pos 0))) ≡ get_or buf i (pos 0) = held32 (get_or buf i (pos 0)) c.error-1.given in
    let f-is : to_z w32 (of_z w32 c.forecast_at-predicted.result) ≡ forecast c.args.lpc_quant (take i buf) cs =
    held32 c.forecast_at-predicted.result c.forecast_at-predicted.type_inv ∙ c.forecast_at-predicted.ensures in
    let w-is : to_z w32 (of_z w32 c.wrapping_add_i32-sample.result) ≡ add32 (forecast c.args.lpc_quant (take i buf) cs) (get_or buf i (pos 0)) =
    held32 c.wrapping_add_i32-sample.result c.wrapping_add_i32-sample.type_inv ∙ (rw (f-is, v-is) at c.wrapping_add_i32-sample.ensures) in
    let x-is : x ≡ next c.args.bps c.args.lpc_quant (take i buf) cs (get_or buf i (pos 0)) =
    held32 c.sign_extend-extended.result c.sign_extend-extended.type_inv
    ∙ (rw w-is at c.sign_extend-extended.ensures)
    ∙ sym (next-later c.args.lpc_quant i buf cs (omega arith) c.args.bps (get_or buf i (pos 0)) (omega arith)) in
    let cs-are = rw (take-set-le i buf i x (le_refl i), v-is) at c.adapt_at.ensures in (
      omega arith,
      simp length-set (omega arith),
      omega (arith, c.adapt_at.auto),
      going_next c.args.bps c.args.lpc_quant _ _ i cs buf c.loop-i.invariant.3 (omega arith) x _ x-is cs-are,
    )

pub returns : goal.returns
returns c = going_done _ _ _ _ _ _ _ c.loop-i.invariant.3 (omega arith)
