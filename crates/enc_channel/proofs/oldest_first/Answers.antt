-- `oldest_first` meets its contract: the coefficients are turned round, and the others stay zero.
use mathlib.Core.Path.{refl}
use native.Mathlib.Omega.{arith}
use lib.ListN.{take}
use lib.Seq.{length-take-le}
use Rattle.enc_channel.proofs.Turned.{turning_start}
use Rattle.enc_channel.proofs.oldest_first.Goals as goal

pub loop-j-init : goal.loop-j-init
loop-j-init c = (refl, turning_start 30 c.args.order (take c.args.order c.args.newest_first) (length-take-le c.args.order c.args.newest_first (omega (arith, c.requires))) c.requires)
