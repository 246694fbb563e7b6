-- The code has the terms of the rule `guess`.
use Prim.Native.Nat.{◌-◌, ◌^◌}
use mathlib.Core.Path.{◌≡◌, ◌∙◌}
use lib.IntN.{pos}
use mir.Syntax.{w32}
use mir.Val.{to_z, of_z}
use Rattle.rules.specs.Words.{add32}
use Rattle.rules.specs.Prediction.{weighed, guess}
use Rattle.words.proofs.Laws.{held32}
use Rattle.lpc.proofs.predict_from.Goals as goal

pub returns : goal.returns
unfolding guess
returns c =
    let sum = weighed c.args.mean (pos 0) c.args.xs.now c.args.lpc_coefs.now in
    let half = pos (2 ^ (c.args.lpc_quant - 1)) in
    let sum_is : to_z w32 (of_z w32 c.weigh-sum.result) ≡ sum =
    held32 c.weigh-sum.result c.weigh-sum.type_inv ∙ (rw (held32 c.args.mean c.ranges.mean.sfits) at c.weigh-sum.ensures) in
    let half_is : to_z w32 (of_z w32 c.one_at-half.result) ≡ half = held32 c.one_at-half.result c.one_at-half.type_inv ∙ c.one_at-half.ensures in
    let rounded-is : to_z w32 (of_z w32 c.wrapping_add_i32-rounded.result) ≡ add32 sum half =
    held32 c.wrapping_add_i32-rounded.result c.wrapping_add_i32-rounded.type_inv ∙ (rw (sum_is, half_is) at c.wrapping_add_i32-rounded.ensures) in
    held32 c.shift_down.result c.shift_down.type_inv ∙ (rw rounded-is at c.shift_down.ensures)
