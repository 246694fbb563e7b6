-- `encode_packet_i16` meets its contract: each test in its place, and the packet past them all.
use mathlib.Core.Path.{refl, sym, ◌∙◌}
use Rattle.rules.specs.Stream.{i32_output}
use Rattle.laws.specs.Tests.{accepted_fields}
use Rattle.enc.proofs.Entry.{unaccepted, unroomy, unranged, unfitting, packs}
use Rattle.enc.proofs.encode_packet_i16.Goals as goal

pub returns-then-not-accepts : goal.returns-then-not-accepts
returns-then-not-accepts c = unaccepted _ _ _ _ _ (sym c.accepts.ensures ∙ c.if-not-accepts.true)

pub returns-then-scratch-places : goal.returns-then-scratch-places
returns-then-scratch-places c = unroomy _ _ _ _ _ (sym c.accepts.ensures ∙ c.if-not-accepts.false) c.if-scratch-places.true

pub returns-then-not-in_range : goal.returns-then-not-in_range
returns-then-not-in_range c = unranged _ _ _ _ _ (sym c.accepts.ensures ∙ c.if-not-accepts.false) c.if-scratch-places.false c.clear.ensures (sym c.in_range.ensures ∙ c.if-not-in_range.true)

pub passage_fits-requires : goal.passage_fits-requires
passage_fits-requires c = (accepted_fields i32_output _ (sym c.accepts.ensures ∙ c.if-not-accepts.false)).channels_ge

pub returns-then-not-passage_fits : goal.returns-then-not-passage_fits
returns-then-not-passage_fits c = unfitting _ _ _ _ _ (sym c.accepts.ensures ∙ c.if-not-accepts.false) c.if-scratch-places.false c.clear.ensures (sym c.in_range.ensures ∙ c.if-not-in_range.false) (sym (c.passage_fits.ensures.says _ _ refl) ∙ c.if-not-passage_fits.true)

pub returns : goal.returns
returns c = packs _ _ _ _ _ (sym c.accepts.ensures ∙ c.if-not-accepts.false) c.if-scratch-places.false c.clear.ensures (sym c.in_range.ensures ∙ c.if-not-in_range.false) (sym (c.passage_fits.ensures.says _ _ refl) ∙ c.if-not-passage_fits.false) c.pack.ensures
