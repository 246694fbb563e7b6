-- The code has the terms of the rule `error_left`.
use Prim.Native.Nat.{◌+◌}
use mathlib.Core.Path.{◌≡◌, ◌∙◌}
use lib.IntN.{pos}
use mir.Val.{to_z, of_z}
use native.Mathlib.Omega.{arith}
use mir.Syntax.{w32}
use mir.Facts.{to_z_pos}
use Rattle.words.proofs.Laws.{held32}
use Rattle.rules.specs.Words.{mul32, shift_right}
use Rattle.rules.specs.Prediction.{error_left}
use Rattle.lpc.proofs.next_error.Goals as goal

pub returns : goal.returns
unfolding error_left
returns c =
    let d = c.args.d in
    let t = c.args.t in
    let s = c.args.error_sign in
    let loss = shift_right (mul32 d t) c.args.lpc_quant in
    let p-is : to_z w32 (of_z w32 c.wrapping_mul_i32-p.result) ≡ mul32 d t =
    held32 c.wrapping_mul_i32-p.result c.wrapping_mul_i32-p.type_inv
    ∙ (rw (held32 d c.ranges.d.sfits, held32 t c.ranges.t.sfits) at c.wrapping_mul_i32-p.ensures) in
    let h-is : to_z w32 (of_z w32 c.shift_down-shifted.result) ≡ loss =
    held32 c.shift_down-shifted.result c.shift_down-shifted.type_inv ∙ (rw p-is at c.shift_down-shifted.ensures) in
    let g-is : to_z w32 (of_z w32 c.wrapping_mul_i32-signed.result) ≡ mul32 s loss =
    held32 c.wrapping_mul_i32-signed.result c.wrapping_mul_i32-signed.type_inv
    ∙ (rw (h-is, held32 s c.ranges.error_sign.sfits) at c.wrapping_mul_i32-signed.ensures) in
    let n-is : to_z w32 (of_z w32 c.wrapping_mul_i32-loss.result) ≡ mul32 (mul32 s loss) (pos (c.args.j + 1)) =
    held32 c.wrapping_mul_i32-loss.result c.wrapping_mul_i32-loss.type_inv
    ∙ (rw (g-is, to_z_pos w32 {n = c.args.j + 1} (omega arith)) at c.wrapping_mul_i32-loss.ensures) in
    held32 c.wrapping_sub_i32.result c.wrapping_sub_i32.type_inv
    ∙ (rw (n-is, held32 c.args.error c.ranges.error.sfits) at c.wrapping_sub_i32.ensures)
