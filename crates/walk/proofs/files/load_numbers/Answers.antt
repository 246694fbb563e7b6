-- A text has no more numbers than there is room for.
use Rattle.walk.proofs.Laws.{many_few, same_long}
use Rattle.walk.proofs.files.load_numbers.Goals as goal

pub returns-in-Ok : goal.returns-in-Ok
returns-in-Ok g c = (many_few _ c.numbers_of.ensures c.in-Ok.is, same_long c.numbers_of.ensures)
