-- The stream is judged before the room.
use mathlib.Core.Path.{sym, ◌∙◌}
use Rattle.dec.specs.Told.{judgement}
use Rattle.dec.proofs.judge.Goals as goal

pub returns-then-not-stream : goal.returns-then-not-stream
unfolding judgement
returns-then-not-stream g c = rw (sym c.accepts-stream.ensures ∙ c.if-not-stream.true)

pub returns-then-not-room : goal.returns-then-not-room
unfolding judgement
returns-then-not-room g c = rw (sym c.accepts-stream.ensures ∙ c.if-not-stream.false, sym c.roomy-room.ensures ∙ c.if-not-room.true)

pub returns : goal.returns
unfolding judgement
returns g c = rw (sym c.accepts-stream.ensures ∙ c.if-not-stream.false, sym c.roomy-room.ensures ∙ c.if-not-room.false)
