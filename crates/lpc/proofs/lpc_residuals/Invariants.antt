-- The residuals so far, and what the rules make of the rest from here, are the whole.
use mathlib.Core.Path.{◌≡◌}
use lib.ListN.{length}
use Rattle.lpc.proofs.Residuals.{Leaving}
use Rattle.lpc.proofs.lpc_residuals.Given as goal

abbrev pub invariant-loop-i : goal.invariant-loop-i
invariant-loop-i l =
    (length l.buf ≡ length l.initial.buf) × (length l.lpc_coefs ≡ length l.initial.lpc_coefs) × Leaving l.bps l.lpc_quant l.n l.initial.lpc_coefs l.initial.buf l.i l.lpc_coefs l.buf
