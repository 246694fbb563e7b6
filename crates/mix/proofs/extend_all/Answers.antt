-- Where there are no extra bits the samples stay.
use mathlib.Core.Path.{sym}
use Rattle.mix.proofs.Finished.{extra_some, extra_stays}
use Rattle.mix.proofs.extend_all.Goals as goal

pub returns-then-shift-ne0 : goal.returns-then-shift-ne0
returns-then-shift-ne0 c =
    rw (← extra_some c.args.channels c.args.shift _ _ c.if-shift-ne0.true) c.append_extra_bits.ensures

pub returns-else-shift-ne0 : goal.returns-else-shift-ne0
returns-else-shift-ne0 c =
    sym (extra_stays c.args.half c.args.n c.args.channels c.args.scratch.now c.requires.roomy c.args.shift _ c.if-shift-ne0.false)
