-- 2 and 3 change nothing, scratch is cleared after the elements, and a refusal is silence.
use mathlib.Core.Path.{sym, ◌∙◌}
use native.Mathlib.Omega.{arith}
use Rattle.dec.proofs.Entry.{readable, promise_unfit, promise_accepted, promise_refused}
use Rattle.dec.proofs.decode_packet.Goals as goal

pub returns-in-Err : goal.returns-in-Err
returns-in-Err g c = rw (c.place-at.ensures, c.new-bits.ensures.at) (promise_unfit _ _ _ _ _ (sym c.in-Err.is ∙ c.judge.ensures))

pub read_all-answer-requires-clause-readable : goal.read_all-answer-requires-clause-readable
read_all-answer-requires-clause-readable g c = readable _ _ _ _ (sym c.in_default.is ∙ c.judge.ensures) g.met.S.Sample.depths

pub clear-requires : goal.clear-requires
clear-requires g c =
    let begins = readable _ _ _ _ (sym c.in_default.is ∙ c.judge.ensures) g.met.S.Sample.depths in
    omega (arith, begins.room, c.read_all-answer.auto.scratch)

pub clear-requires-in-Err-answer : goal.clear-requires-in-Err-answer
clear-requires-in-Err-answer g c =
    let begins = readable _ _ _ _ (sym c.in_default.is ∙ c.judge.ensures) g.met.S.Sample.depths in
    omega (arith, begins.places, c.read_all-answer.auto.out)

pub returns-in-Ok : goal.returns-in-Ok
returns-in-Ok g c =
    rw c.place-at-2.ensures
    (promise_accepted _ _ _ _ _ (sym c.in_default.is ∙ c.judge.ensures) c.new-bits.ensures.bits c.read_all-answer.ensures c.clear.ensures c.in-Ok.is)

pub returns-in-Err-answer : goal.returns-in-Err-answer
returns-in-Err-answer g c =
    rw c.place-at-2.ensures
    (promise_refused _ _ _ _ _ (sym c.in_default.is ∙ c.judge.ensures) c.new-bits.ensures.bits c.read_all-answer.ensures c.clear.ensures c.in-Err-answer.is c.clear-in-Err-answer.ensures)
