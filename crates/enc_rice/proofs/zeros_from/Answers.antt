-- `zeros_from` meets its contract: the samples from `from` to `j` are zeros, and those from `j` on are still to be counted.
use mathlib.Core.Path.{◌≡◌}
use native.Mathlib.Omega.{arith}
use lib.ListN.{length, get_or}
use lib.IntN.{pos}
use Rattle.words.proofs.Laws.{zero_bits, nonzero_bits}
use Rattle.enc_rice.proofs.Turns.{zeros-next, zeros_stop, zeros_end}
use Rattle.enc_rice.proofs.zeros_from.Goals as goal

pub returns-then-residuals-j-ne0 : goal.returns-then-residuals-j-ne0
returns-then-residuals-j-ne0 c =
    let es = c.args.residuals.now in
    let e = get_or es c.loop-j.j (pos 0) in
    let z = zeros_stop es c.loop-j.j c.loop-j-test.true (nonzero_bits e c.if-residuals-j-ne0.true) in
    record { are = omega (arith, c.loop-j.invariant.2, z); fit = omega arith }

pub loop-j-preserved : goal.loop-j-preserved
loop-j-preserved c =
    let es = c.args.residuals.now in
    let e = get_or es c.loop-j.j (pos 0) in
    let z = zeros-next es c.loop-j.j c.loop-j-test.true (zero_bits e (omega arith) c.if-residuals-j-ne0.false) in
    (omega arith, omega arith, omega (arith, c.loop-j.invariant.2, z))

pub returns : goal.returns
returns c =
    let es = c.args.residuals.now in
    let e : c.loop-j.j ≡ length es = omega arith in
    record { are = omega (arith, c.loop-j.invariant.2, rw (← e) at (zeros_end es)); fit = omega arith }
