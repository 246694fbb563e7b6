-- What is mixed and what the rule makes of the pairs that are left is what it makes of all.
use Prim.Native.Nat.{◌+◌, ◌*◌}
use mathlib.Core.Path.{◌≡◌, ◌∙◌}
use native.Mathlib.Omega.{arith}
use lib.ListN.{get_or}
use lib.IntN.{pos}
use mir.Syntax.{w16, w32}
use mir.Val.{to_z, of_z}
use Rattle.words.proofs.Laws.{held32, wide}
use Rattle.mix.proofs.PassageTurns.{filling_start, filling_next, filling_done, mixed-start, mixed-next, mixed_end}
use Rattle.mix.proofs.mix_pairs.Goals as goal

pub loop-i-init : goal.loop-i-init
loop-i-init c = filling_start (mixed-start _ _ _ _ c.requires.there)

pub loop-i-preserved : goal.loop-i-preserved
loop-i-preserved c =
    let left = get_or c.args.passage.now (c.loop-i.i * 2) (pos 0) in
    let right = get_or c.args.passage.now (c.loop-i.i * 2 + 1) (pos 0) in
    let h = c.loop-i-test.true in
    let wl : to_z w32 (of_z w32 (to_z w16 (of_z w16 left))) ≡ left = wide w16 w32 tt left (record { sfits = omega arith }) in
    let wr : to_z w32 (of_z w32 (to_z w16 (of_z w16 right))) ≡ right = wide w16 w32 tt right (record { sfits = omega arith }) in
    filling_next c.loop-i.invariant h (mixed-next _ _ _ _ _ _ c.requires.rows h)
    (held32 c.mix_pair.result c.mix_pair.type_inv ∙ (rw (wl, wr) at c.mix_pair.ensures))

pub returns : goal.returns
returns c =
    rw (held32 c.args.mix_res c.ranges.mix_res.sfits)
    at (filling_done c.loop-i.invariant c.loop-i-test.false (mixed_end c.args.mix_bits _ c.args.which c.args.passage.now _ _ c.requires.rows c.loop-i-test.false))
