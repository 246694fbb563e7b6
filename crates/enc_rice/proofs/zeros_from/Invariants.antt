-- `zeros_from` meets its contract: the samples from `from` to `j` are zeros, and those from `j` on are still to be counted.
use Prim.Native.Nat.{◌+◌, ◌-◌, ◌≤◌}
use mathlib.Core.Path.{◌≡◌}
use lib.ListN.{length, drop}
use Rattle.rules.specs.Writer.{zeros}
use Rattle.enc_rice.proofs.zeros_from.Given as goal

abbrev pub invariant-loop-j : goal.invariant-loop-j
invariant-loop-j l = (l.from ≤ l.j) × (l.j ≤ length l.residuals) × (zeros (drop l.from l.residuals) ≡ l.j - l.from + zeros (drop l.j l.residuals))

abbrev pub decreases-loop-j : goal.decreases-loop-j
decreases-loop-j l = length l.residuals - l.j
