-- `run_k` meets its contract: a history below 128 has 24 leading zeros or more.
use Rattle.std.proofs.Common.{refl}
use Rattle.rules.specs.Rice.{run_k}
use Rattle.dec_rice.proofs.Symbols.{leading_small}
use Rattle.dec_rice.proofs.run_k.Goals as goal

pub overflow_sub-k : goal.overflow_sub-k
overflow_sub-k c = leading_small c.args.h c.requires

pub returns : goal.returns
unfolding run_k
returns c = refl
