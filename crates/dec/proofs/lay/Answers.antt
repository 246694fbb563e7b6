-- The first channel goes to its places, and the second, where there is one, to those after them.
use Rattle.dec.proofs.Steps.{laid_one, laid_two}
use Rattle.dec.proofs.lay.Goals as goal

pub returns-then-w-eq1 : goal.returns-then-w-eq1
returns-then-w-eq1 g c = laid_one c.before.requires (g.S.Sample.output.keep c.before.args.s.bit_depth) c.store.ensures c.if-w-eq1.true

pub returns : goal.returns
returns g c = laid_two c.before.requires (g.S.Sample.output.keep c.before.args.s.bit_depth) c.store.ensures c.if-w-eq1.false c.store-2.ensures
