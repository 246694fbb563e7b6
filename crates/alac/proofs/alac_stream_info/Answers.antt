-- The fields, or the number of a cookie's refusal.
use mathlib.Core.Path.{refl, sym, ◌∙◌}
use Rattle.alac.specs.Boundary.{fields_after}
use Rattle.alac.proofs.alac_stream_info.Goals as goal

pub returns-in-Err : goal.returns-in-Err
unfolding fields_after
returns-in-Err c =
    let e = sym c.from_cookie.ensures ∙ c.in-Err.is in
    record { number = rw e c.from.ensures; fields = rw e refl }

pub returns-in-Ok : goal.returns-in-Ok
unfolding fields_after
returns-in-Ok c =
    let e = sym c.from_cookie.ensures ∙ c.in-Ok.is in
    record { number = rw e refl; fields = rw e c.fields_of.ensures }
