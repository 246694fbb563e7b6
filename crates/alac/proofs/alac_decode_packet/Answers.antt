-- A refused cookie is told, and what an accepted one gives is handed on.
use mathlib.Core.Path.{refl, sym, ◌∙◌}
use Rattle.alac.specs.Boundary.{number_after, words_after, output_left, scratch_left}
use Rattle.alac.proofs.alac_decode_packet.Goals as goal

pub returns-in-Err : goal.returns-in-Err
unfolding number_after words_after output_left scratch_left
returns-in-Err g c =
    let e = sym c.from_cookie.ensures ∙ c.in-Err.is in
    record { number = rw e (c.tell.ensures.told ∙ c.from.ensures); words = rw e (rw (← c.from.ensures) c.tell.ensures.are); output = rw e refl; room = rw e refl }

pub returns-in-Ok : goal.returns-in-Ok
unfolding number_after words_after output_left scratch_left
returns-in-Ok g c =
    let e = sym c.from_cookie.ensures ∙ c.in-Ok.is in
    let d = c.decode_packet.ensures in
    record { number = rw e (rw (← d.answer) c.tell_read.ensures.told); words = rw e (rw (← d.answer) c.tell_read.ensures.are); output = rw e d.output; room = rw e d.room }
