-- The shifted sample and the extra bits are wrapped once more when they are summed, which changes nothing.
use Prim.Native.Nat.{◌^◌}
use lib.Dec.{lit≤}
use lib.IntN.{pos, ◌*ℤ◌}
use Rattle.rules.specs.Words.{wrap}
use Rattle.rules.specs.Element.{extended}
use Rattle.laws.specs.Words.{wrap_in_l, wrap_in_r}
use Rattle.words.proofs.Laws.{held32}
use Rattle.mix.proofs.extend.Goals as goal

pub returns : goal.returns
unfolding extended
returns c =
    let x = c.args.x *ℤ pos (2 ^ c.args.shift) in
    let extra = pos c.args.extra in
    cc (
      held32 c.wrapping_add_i32.result c.wrapping_add_i32.type_inv,
      held32 c.number_of-low.result c.number_of-low.type_inv,
      held32 c.shift_up-high.result c.shift_up-high.type_inv,
      held32 c.args.x c.ranges.x.sfits,
      wrap_in_l 32 32 x (wrap 32 extra) (lit≤ tt),
      wrap_in_r 32 32 x extra (lit≤ tt),
    )
