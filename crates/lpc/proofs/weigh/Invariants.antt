-- What is left of the sum, from where the loop stands, is the whole.
use mathlib.Core.Path.{◌≡◌}
use lib.ListN.{drop}
use lib.IntN.{pos}
use Rattle.rules.specs.Prediction.{weighed}
use Rattle.lpc.proofs.weigh.Given as goal

abbrev pub invariant-loop-j : goal.invariant-loop-j
invariant-loop-j l =
    weighed l.mean l.predicted (drop l.j l.xs) (drop l.j l.lpc_coefs) ≡ weighed l.mean (pos 0) l.xs l.lpc_coefs
