-- `passage_fits` meets its contract: the tests are the rules', in their order.
use Rattle.rules.specs.Writer.{passage_fits}
use Rattle.enc.proofs.passage_fits.Goals as goal

pub returns : goal.returns
unfolding passage_fits
returns c = record { says = λ t passage e. rw e }
