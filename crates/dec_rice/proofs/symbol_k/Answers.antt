-- `symbol_k` meets its contract: a number above 0 has 31 leading zeros or fewer.
use Rattle.std.proofs.Common.{arith}
use Rattle.rules.specs.Words.{log2}
use Rattle.rules.specs.Rice.{symbol_k}
use Rattle.dec_rice.proofs.symbol_k.Goals as goal

pub returns-then-kb-k : goal.returns-then-kb-k
unfolding symbol_k log2
returns-then-kb-k c = omega arith

pub returns : goal.returns
unfolding symbol_k log2
returns c = omega arith
