-- Each turn reads the extra bits of one sample of each channel; what is done and what the rule makes of the rest is what it makes of all.
use Rattle.mix.proofs.ScratchTurns.{appending_one, appending_two, appending_done}
use Rattle.mix.proofs.append_extra_bits.Goals as goal
use Rattle.mix.proofs.append_extra_bits.Goals.{then-channels-eq2, else-channels-eq2}

pub loop-i-preserved : goal.loop-i-preserved
loop-i-preserved c =
    let l = c.loop-i-test.true in
    let u = c.loop-i.invariant in
    let t = c.append_at.ensures in
    elim c.if-channels-eq2.branch [
      | then-channels-eq2 w ↦ rw (w.scratch-is, w.extra-is) (appending_two c.requires u l w.if-channels-eq2.true t w.append_at-then-channels-eq2.ensures)
      | else-channels-eq2 w ↦ rw (w.scratch-is, w.extra-is) (appending_one c.requires u l w.if-channels-eq2.false t)
    ]

pub returns : goal.returns
returns c =
    appending_done _ c.requires c.loop-i.invariant c.loop-i-test.false
