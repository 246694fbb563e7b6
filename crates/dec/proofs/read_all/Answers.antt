-- What the rules still read from here makes what they read from the start; each element lies further on.
use mathlib.Core.Path.{ap, ◌∙◌}
use native.Mathlib.Omega.{arith}
use Rattle.std.specs.Prelude.{Ok}
use Rattle.bitcursor.proofs.Laws.{exit}
use Rattle.dec_packet.specs.Told.{Sane}
use Rattle.dec.proofs.Steps.{layable}
use Rattle.dec.proofs.Whole.{reading_start, reading_readable, reading_audio, reading_passed, reading_end, reading_refused}
use Rattle.dec.proofs.read_all.Goals as goal

pub loop-element-init : goal.loop-element-init
loop-element-init g c = reading_start _ _ _ _ _ c.requires.start

pub returns-in_err-element : goal.returns-in_err-element
returns-in_err-element g c =
    rw (exit _ c.from_residual.ensures.1) (reading_refused _ _ _ _ _ c.loop-element.invariant c.requires.readable.room c.next_element.ensures c.in_err-element.was)

pub lay-requires : goal.lay-requires
lay-requires g c =
    layable (reading_readable _ _ _ _ _ c.loop-element.invariant c.requires.readable) c.next_element.auto.scratch c.next_element.ensures.sane (c.in_ok-element.was ∙ ap Ok c.in-Audio.is)

pub overflow_add-st : goal.overflow_add-st
unfolding Sane
overflow_add-st g c =
    let sane = rw (c.in_ok-element.was ∙ ap Ok c.in-Audio.is) at c.next_element.ensures.sane in omega (arith, sane)

pub loop-element-smaller-in-Audio : goal.loop-element-smaller-in-Audio
loop-element-smaller-in-Audio g c =
    (reading_audio _ _ _ _ _ c.loop-element.invariant c.requires.readable.room c.next_element.ensures (c.in_ok-element.was ∙ ap Ok c.in-Audio.is) c.lay.ensures).1

pub loop-element-preserved-in-Audio : goal.loop-element-preserved-in-Audio
loop-element-preserved-in-Audio g c =
    (reading_audio _ _ _ _ _ c.loop-element.invariant c.requires.readable.room c.next_element.ensures (c.in_ok-element.was ∙ ap Ok c.in-Audio.is) c.lay.ensures).0

pub loop-element-smaller : goal.loop-element-smaller
loop-element-smaller g c =
    (reading_passed _ _ _ _ _ c.loop-element.invariant c.requires.readable.room c.next_element.ensures (c.in_ok-element.was ∙ ap Ok c.in-Passed.is)).1

pub loop-element-preserved : goal.loop-element-preserved
loop-element-preserved g c =
    (reading_passed _ _ _ _ _ c.loop-element.invariant c.requires.readable.room c.next_element.ensures (c.in_ok-element.was ∙ ap Ok c.in-Passed.is)).0

pub returns-in-End : goal.returns-in-End
returns-in-End g c =
    reading_end _ _ _ _ _ c.loop-element.invariant c.requires.readable.room c.next_element.ensures c.requires.readable.places (c.in_ok-element.was ∙ ap Ok c.in-End.is)
