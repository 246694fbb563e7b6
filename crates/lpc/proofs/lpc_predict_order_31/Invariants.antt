-- The sums so far, and what the rule makes of the rest, are the whole.
use Prim.Native.Nat.{◌≤◌, ◌-◌}
use mathlib.Core.Path.{◌≡◌}
use mathlib.Core.List.{◌++◌}
use lib.ListN.{length, get_or, take, drop}
use lib.IntN.{pos}
use Rattle.rules.specs.Prediction.{summed, summed_from}
use Rattle.lpc.proofs.lpc_predict_order_31.Given as goal

abbrev pub invariant-loop-i : goal.invariant-loop-i
invariant-loop-i l =
    (1 ≤ l.i) × (length l.buf ≡ l.i-end) × (take l.i l.buf ++ summed_from l.bps (get_or l.buf (l.i - 1) (pos 0)) (drop l.i l.buf) ≡ summed l.bps l.initial.buf)
