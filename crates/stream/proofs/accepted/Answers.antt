-- `accepted` meets its contract: the tests are the rules', in their order.
use Rattle.rules.specs.Stream.{accepted}
use Rattle.stream.proofs.accepted.Goals as goal

pub returns : goal.returns
unfolding accepted
returns c = record { says = λ w h. rw h }
