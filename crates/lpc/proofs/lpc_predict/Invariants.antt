-- The samples so far, and what the rules make of the rest from here, are the whole.
use Prim.Native.Nat.{◌≤◌}
use mathlib.Core.Path.{◌≡◌}
use lib.ListN.{length}
use Rattle.lpc.proofs.Steps.{Going}
use Rattle.lpc.proofs.lpc_predict.Given as goal

abbrev pub invariant-loop-i : goal.invariant-loop-i
invariant-loop-i l =
    (1 ≤ l.i) × (length l.buf ≡ l.samples) × (length l.lpc_coefs ≡ length l.initial.lpc_coefs) × Going l.bps l.lpc_quant l.initial.lpc_coefs l.initial.buf l.i l.lpc_coefs l.buf
