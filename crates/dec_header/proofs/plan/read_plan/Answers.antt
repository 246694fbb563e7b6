-- What an accepted plan has.
use Prim.Native.Nat.{◌<◌}
use Rattle.std.proofs.Common.{arith}
use Rattle.std.proofs.lemmas.Grind.{common_steps}
use Rattle.rules.specs.Element.{all_of, mix_ok}
use Rattle.bitcursor.proofs.Laws.{read_lt}
use Rattle.dec_header.proofs.PlanSteps.{signed_zero, channel_allowed}
use Rattle.dec_header.proofs.plan.read_plan.Goals as goal

pub returns-clause-allowed : goal.returns-clause-allowed
unfolding all_of mix_ok
returns-clause-allowed c =
    let h : c.in_ok-mix_res.mix_res < 256 = read_lt 8 c.read-2.ensures c.in_ok-mix_res.was in
    grind (arith, common_steps, channel_allowed, signed_zero)
