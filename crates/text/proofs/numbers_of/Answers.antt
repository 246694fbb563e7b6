-- The numbers of the bytes before `at` are read, and the rules read on from here.
use mathlib.Core.Path.{◌≡◌}
use native.Mathlib.Omega.{arith}
use lib.ListN.{length}
use Rattle.std.proofs.lemmas.Result.{err_from_is_err_and}
use Rattle.text.proofs.Laws.{going_start, going_next, going_not, last_ok, last_not}
use Rattle.text.proofs.numbers_of.Goals as goal

pub loop-at-init : goal.loop-at-init
loop-at-init c = going_start _ _

pub returns-in_err-state : goal.returns-in_err-state
returns-in_err-state c =
    let exit = err_from_is_err_and c.from_residual.result c.from_residual.ensures.1 in
    rw (exit.1, exit.2) (going_not _ _ _ c.loop-at.invariant c.carry.ensures c.loop-at-test.true (rw c.kind_of.ensures at c.turn_of-turn.ensures) _ c.in_err-state.was)

pub loop-at-preserved : goal.loop-at-preserved
loop-at-preserved c = going_next _ _ _ c.loop-at.invariant c.carry.ensures c.loop-at-test.true (rw c.kind_of.ensures at c.turn_of-turn.ensures) _ c.in_ok-state.was

pub returns-in_err-last : goal.returns-in_err-last
returns-in_err-last c =
    let exit = err_from_is_err_and c.from_residual-in_err-last.result c.from_residual-in_err-last.ensures.1 in
    let whole : c.loop-at.at ≡ length c.args.text.now = omega (arith, c.loop-at.invariant.at_le) in
    rw (exit.1, exit.2) (last_not _ _ _ (rw whole at c.loop-at.invariant) c.carry-2.ensures (omega arith) c.turn_of.ensures _ c.in_err-last.was)

pub returns : goal.returns
returns c =
    let whole : c.loop-at.at ≡ length c.args.text.now = omega (arith, c.loop-at.invariant.at_le) in
    last_ok _ _ _ (rw whole at c.loop-at.invariant) c.carry-2.ensures (omega arith) c.turn_of.ensures _ c.in_ok-last.was
