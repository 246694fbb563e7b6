-- `decode_compressed` meets its contract: 9 and 10, then the plan, then what follows it.
use mathlib.Core.Path.{refl}
use native.Mathlib.Omega.{arith}
use Rattle.bitcursor.proofs.Laws.{value_of, refused_of, exit}
use Rattle.dec_element.proofs.Sounds.{sound_refused, sounds_on, wide_refused, none_refused, plan_refused, plan-read}
use Rattle.dec_element.proofs.decode_compressed.Goals as goal

pub returns-then-bps-gt32 : goal.returns-then-bps-gt32
returns-then-bps-gt32 c = sound_refused _ _ refl (wide_refused _ _ _ _ _ _ c.if-bps-gt32.true) refl refl

pub returns-then-bps-eq0 : goal.returns-then-bps-eq0
returns-then-bps-eq0 c = sound_refused _ _ refl (none_refused _ _ _ _ _ _ c.if-bps-eq0.true) refl refl

pub returns-in_err-plan : goal.returns-in_err-plan
returns-in_err-plan c =
    let t = c.read_plan.ensures.reads in
    sound_refused _ _ (exit _ c.from_residual.ensures.1)
    (plan_refused _ _ _ _ _ _ (omega (arith, c.if-bps-eq0.false)) (omega (arith, c.if-bps-gt32.false)) (refused_of t c.in_err-plan.was)) t.same refl

pub returns : goal.returns
returns c =
    let t = c.read_plan.ensures.reads in
    sounds_on t.same
    (plan-read _ _ _ _ _ _ (omega (arith, c.if-bps-eq0.false)) (omega (arith, c.if-bps-gt32.false)) (value_of t c.in_ok-plan.was)) c.decode_planned.ensures
