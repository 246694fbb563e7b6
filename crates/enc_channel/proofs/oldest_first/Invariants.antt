-- `oldest_first` meets its contract: the coefficients are turned round, and the others stay zero.
use Prim.Native.Nat.{◌-◌}
use mathlib.Core.Path.{◌≡◌}
use mathlib.Core.List.{◌++◌, reverse}
use lib.ListN.{length, take, replicate}
use lib.IntN.{pos}
use Rattle.enc_channel.proofs.Turned.{Turning}
use Rattle.enc_channel.proofs.oldest_first.Given as goal

abbrev pub invariant-loop-j : goal.invariant-loop-j
invariant-loop-j l =
    (length l.coefs ≡ 30) × Turning (reverse (take l.order l.newest_first) ++ replicate (30 - l.order) (pos 0)) (take l.order l.newest_first) l.coefs l.order l.j
