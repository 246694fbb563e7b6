-- The coefficients passed, and what the rule makes of the rest from here, are what it makes of all.
use mathlib.Core.Path.{◌≡◌}
use mathlib.Core.List.{◌++◌}
use lib.ListN.{length, take, drop}
use Rattle.rules.specs.Prediction.{adapted}
use Rattle.lpc.proofs.adapt.Given as goal

abbrev pub invariant-loop-j : goal.invariant-loop-j
invariant-loop-j l =
    (length l.lpc_coefs ≡ l.j-end)
    × (take l.j l.lpc_coefs ++ adapted l.lpc_quant l.mean l.error_sign l.j l.error (drop l.j l.xs) (drop l.j l.lpc_coefs)
    ≡ adapted l.lpc_quant l.mean l.error_sign 0 l.initial.error l.xs l.initial.lpc_coefs)
