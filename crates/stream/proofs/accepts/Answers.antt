-- No place of the output has a say.
use lib.IntN.{pos}
use Rattle.rules.specs.Stream.{accepted}
use Rattle.stream.proofs.accepts.Goals as goal

pub returns : goal.returns
unfolding accepted
returns g c = c.accepted.ensures.says (record { takes = g.S.Sample.output.takes; keep = λ depth x. x; silence = pos 0 }) c.takes.ensures
