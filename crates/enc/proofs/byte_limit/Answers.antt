-- `byte_limit` meets its contract: one channel's limit, or both.
use mathlib.Core.Path.{◌≡◌, refl}
use native.Mathlib.Omega.{arith}
use Rattle.rules.specs.Writer.{bit_limit}
use Rattle.enc.proofs.byte_limit.Goals as goal

pub returns-then-s-eq1 : goal.returns-then-s-eq1
unfolding bit_limit
returns-then-s-eq1 c = rw (c.if-s-eq1.true, c.channel_limit-one.ensures) refl

pub returns : goal.returns
unfolding bit_limit
returns c =
    let two : c.args.s.num_channels ≡ 2 = omega (arith, c.requires.some, c.requires.two, c.if-s-eq1.false) in
    rw (two, c.channel_limit-one.ensures, c.channel_limit-two.ensures) refl
