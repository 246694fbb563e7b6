-- A refused cookie is told, and what an accepted one gives is handed on.
use mathlib.Core.Path.{refl, sym, ◌∙◌}
use Rattle.alac.specs.Boundary.{packed_after, bytes_left, pack_scratch_left}
use Rattle.alac.proofs.alac_encode_packet_i16.Goals as goal

pub returns-in-Err : goal.returns-in-Err
unfolding packed_after bytes_left pack_scratch_left
returns-in-Err c =
    let e = sym c.from_cookie.ensures ∙ c.in-Err.is in
    record { number = rw e (c.tell.ensures.told ∙ c.from.ensures); words = rw e (rw (← c.from.ensures) c.tell.ensures.are); output = rw e refl; room = rw e refl }

pub returns-in-Ok : goal.returns-in-Ok
unfolding packed_after bytes_left pack_scratch_left
returns-in-Ok c =
    let e = sym c.from_cookie.ensures ∙ c.in-Ok.is in
    let d = rw c.settings_of-t.ensures at c.encode_packet_i16.ensures in
    record { number = rw e (rw (← d.answer) c.tell_packed.ensures.told); words = rw e (rw (← d.answer) c.tell_packed.ensures.are); output = rw e d.output; room = rw e d.room }
