-- The sums so far, and what the rule makes of the rest, are the whole.
use Prim.Native.Nat.{◌-◌}
use mathlib.Core.Path.{◌≡◌, refl, sym, ◌∙◌}
use native.Mathlib.Omega.{arith}
use lib.ListN.{get_or, length-set}
use lib.IntN.{pos}
use Rattle.rules.specs.Words.{wrap, add32}
use mir.Syntax.{w32}
use mir.Val.{to_z, of_z}
use Rattle.words.proofs.Laws.{held32}
use Rattle.lpc.proofs.Steps.{summed-start, summed_on, summed_end}
use Rattle.lpc.proofs.lpc_predict_order_31.Goals as goal

pub loop-i-init : goal.loop-i-init
loop-i-init c = (omega arith, refl, summed-start c.args.bps c.args.buf.now)

pub loop-i-preserved : goal.loop-i-preserved
loop-i-preserved c =
    let buf = c.loop-i.buf in
    let i = c.loop-i.i in
    let last = get_or buf (i - 1) (pos 0) in
    let e = get_or buf i (pos 0) in
    let sum_is : to_z w32 (of_z w32 c.wrapping_add_i32-sum.result) ≡ add32 last e =
    held32 c.wrapping_add_i32-sum.result c.wrapping_add_i32-sum.type_inv
    ∙ (rw (held32 last c.wrapping_add_i32-arg-1.given, held32 e c.wrapping_add_i32-arg-in-loop-i-1.given) at c.wrapping_add_i32-sum.ensures) in
    let x-is : to_z w32 (of_z w32 c.sign_extend-summed.result) ≡ wrap c.args.bps (add32 last e) =
    held32 c.sign_extend-summed.result c.sign_extend-summed.type_inv ∙ (rw sum_is at c.sign_extend-summed.ensures) in
    (omega arith, simp length-set (omega arith), summed_on c.args.bps i buf _ (omega arith) x-is ∙ c.loop-i.invariant.2)

pub returns : goal.returns
returns c = sym (summed_end _ c.loop-i.i c.loop-i.buf _ (omega arith)) ∙ c.loop-i.invariant.2
