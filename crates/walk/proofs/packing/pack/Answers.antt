-- A stream that is accepted fits the memory of a run.
use Rattle.std.proofs.Common.{sym, ◌∙◌}
use Rattle.rules.specs.Stream.{i32_output}
use Rattle.walk.proofs.Laws.{small}
use Rattle.walk.proofs.packing.pack.Goals as goal

pub pack_all-requires : goal.pack_all-requires
pack_all-requires g c = small i32_output c.in_ok-s.s (sym c.accepts.ensures ∙ c.if-accepts.true)
