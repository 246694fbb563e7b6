-- A stream that is accepted fits the memory of a run.
use Rattle.std.proofs.Common.{sym, ◌∙◌}
use Rattle.rules.specs.Stream.{i16_output}
use Rattle.walk.proofs.Laws.{small}
use Rattle.walk.proofs.reading.read_packets.Goals as goal

pub read_all-requires : goal.read_all-requires
read_all-requires g c = small i16_output c.in_ok-s.s (sym c.accepts.ensures ∙ c.if-accepts.true)
