-- `next_history` meets its contract: both products fit a word, and less is taken away than there is.
use Rattle.std.proofs.Common.{le-ltb, lt-ltb}
use Rattle.rules.specs.Rice.{history_after}
use Rattle.dec_rice.proofs.next_history.Goals as goal

pub returns-then-v-gt65535 : goal.returns-then-v-gt65535
unfolding history_after
returns-then-v-gt65535 c = rw (lt-ltb 65535 c.args.v c.if-v-gt65535.true)

pub returns : goal.returns
unfolding history_after
returns c = rw (le-ltb 65535 c.args.v c.if-v-gt65535.false)
