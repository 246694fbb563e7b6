-- Each return is one of the definition's two cases.
use Prim.Native.Nat.{suc, ◌-◌}
use mathlib.Core.Path.{◌≡◌}
use native.Mathlib.Omega.{arith}
use Rattle.words.proofs.Laws.{held32}
use Rattle.mix.specs.Mixable.{mixed_sample}
use Rattle.mix.proofs.mix_pair.Goals as goal

pub returns-then-which-eq0 : goal.returns-then-which-eq0
unfolding mixed_sample
returns-then-which-eq0 c =
    rw c.if-which-eq0.true (cc (
      held32 c.mid_of.result c.mid_of.type_inv,
      held32 c.args.l c.ranges.l.sfits,
      held32 c.args.r c.ranges.r.sfits,
      held32 c.args.mix_res c.ranges.mix_res.sfits,
    ))

pub returns : goal.returns
unfolding mixed_sample
returns c =
    let second : c.args.which ≡ suc (c.args.which - 1) = omega (arith, c.if-which-eq0.false) in
    rw second (cc (
      held32 c.wrapping_sub_i32.result c.wrapping_sub_i32.type_inv,
      held32 c.args.l c.ranges.l.sfits,
      held32 c.args.r c.ranges.r.sfits,
    ))
