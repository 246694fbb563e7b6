-- A turn of the loop is one step of the rule.
use mathlib.Core.Path.{◌≡◌, sym, ap, ◌∙◌}
use native.Mathlib.Omega.{arith}
use lib.ListN.{get_or}
use lib.IntN.{ℤ, pos}
use mir.Syntax.{w32}
use mir.Val.{to_z, of_z}
use Rattle.words.proofs.Laws.{held32, held16}
use Rattle.rules.specs.Words.{add32, sub32, mul32}
use Rattle.rules.specs.Prediction.{weighed}
use Rattle.lpc.proofs.Steps.{weighed_on, weighed_end}
use Rattle.lpc.proofs.weigh.Goals as goal

pub loop-j-preserved : goal.loop-j-preserved
loop-j-preserved c =
    let xs = c.args.xs.now in
    let cs = c.args.lpc_coefs.now in
    let j = c.loop-j.j in
    let mean = to_z w32 (of_z w32 c.args.mean) in
    let sum = to_z w32 c.loop-j.predicted-bits in
    let sum_is : to_z w32 (of_z w32 c.wrapping_add_i32-predicted.result) ≡ add32 sum (mul32 (sub32 (get_or xs j (pos 0)) mean) (get_or cs j (pos 0))) =
    cc (
      held32 c.wrapping_add_i32-predicted.result c.wrapping_add_i32-predicted.type_inv,
      held32 c.wrapping_mul_i16-product.result c.wrapping_mul_i16-product.type_inv,
      held16 (get_or cs j (pos 0)) c.wrapping_mul_i16-arg-1.given,
      held32 c.wrapping_sub_i32-difference.result c.wrapping_sub_i32-difference.type_inv,
      held32 (get_or xs j (pos 0)) c.wrapping_sub_i32-arg-1.given,
    ) in
    rw sum_is (sym (weighed_on mean sum xs cs j (omega arith) (omega arith)) ∙ c.loop-j.invariant)

pub returns : goal.returns
returns c =
    sym (weighed_end _ (to_z w32 c.loop-j.predicted-bits) c.args.xs.now c.args.lpc_coefs.now c.loop-j.j (omega arith))
    ∙ c.loop-j.invariant
    ∙ ap (λ (m : ℤ). weighed m (pos 0) c.args.xs.now c.args.lpc_coefs.now) (held32 c.args.mean c.ranges.mean.sfits)
