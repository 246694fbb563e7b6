-- Each turn makes one sample of left and right; what is done and what the rule makes of the rest is what it makes of all.
use Prim.Native.Nat.{◌+◌}
use mathlib.Core.Path.{◌≡◌, ◌∙◌}
use native.Mathlib.Omega.{arith}
use lib.ListN.{get_or}
use lib.IntN.{pos}
use mir.Syntax.{w32}
use mir.Val.{to_z, of_z}
use Rattle.rules.specs.Mix.{right_of, left_of}
use Rattle.words.proofs.Laws.{held32}
use Rattle.mix.proofs.ScratchTurns.{unmixing_start, unmixing_next, unmixing_done}
use Rattle.mix.proofs.unmix_stereo.Goals as goal

pub loop-i-init : goal.loop-i-init
loop-i-init c = unmixing_start _ _ _ _ _

-- a turn, in the rule's terms
pub loop-i-preserved : goal.loop-i-preserved
unfolding left_of
loop-i-preserved c =
    let u = get_or c.loop-i.scratch c.loop-i.i (pos 0) in
    let v = get_or c.loop-i.scratch (c.args.half + c.loop-i.i) (pos 0) in
    let res = to_z w32 (of_z w32 c.args.mix_res) in
    let hu : to_z w32 (of_z w32 u) ≡ u = held32 u (omega arith) in
    let hv : to_z w32 (of_z w32 v) ≡ v = held32 v (omega arith) in
    let r-is : to_z w32 (of_z w32 c.right_of-r.result) ≡ right_of c.args.mix_bits res u v =
    held32 c.right_of-r.result c.right_of-r.type_inv ∙ (rw (hu, hv) at c.right_of-r.ensures) in
    let l-is : to_z w32 (of_z w32 c.wrapping_add_i32-l.result) ≡ left_of c.args.mix_bits res u v =
    held32 c.wrapping_add_i32-l.result c.wrapping_add_i32-l.type_inv ∙ (rw (r-is, hv) at c.wrapping_add_i32-l.ensures) in
    unmixing_next c.requires.short c.requires.room c.loop-i.invariant c.loop-i-test.true l-is r-is

pub returns : goal.returns
returns c =
    rw (held32 c.args.mix_res c.ranges.mix_res.sfits) at (unmixing_done c.requires.short c.requires.room c.loop-i.invariant c.loop-i-test.false)
