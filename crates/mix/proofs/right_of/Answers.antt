-- The code has the rule's own terms.
use Rattle.rules.specs.Mix.{share, right_of}
use Rattle.words.proofs.Laws.{held32}
use Rattle.mix.proofs.right_of.Goals as goal

pub returns : goal.returns
unfolding share right_of
returns c =
    cc (
      held32 c.wrapping_sub_i32.result c.wrapping_sub_i32.type_inv,
      held32 c.shift_down-share.result c.shift_down-share.type_inv,
      held32 c.wrapping_mul_i32-product.result c.wrapping_mul_i32-product.type_inv,
      held32 c.args.u c.ranges.u.sfits,
      held32 c.args.v c.ranges.v.sfits,
      held32 c.args.mix_res c.ranges.mix_res.sfits,
    )
