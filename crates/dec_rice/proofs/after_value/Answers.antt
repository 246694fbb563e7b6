-- A run follows, or none does.
use Rattle.std.proofs.Common.{◌≡◌, false, ◌&&◌, ltb, ⊎_elim, arith, le-ltb, lt-ltb}
use Rattle.rules.specs.Rice.{after_value}
use Rattle.laws.specs.Rice.{history_lt}
use Rattle.bitcursor.proofs.Laws.{then, then_not, gives, exit}
use Rattle.dec_rice.proofs.after_value.Goals as goal

pub returns-in_err-owed-clause-reads : goal.returns-in_err-owed-clause-reads
unfolding after_value
returns-in_err-owed-clause-reads c =
    rw (← c.next_history-history.ensures, lt-ltb 0 c.args.left c.if-left-gt0.true, lt-ltb _ 128 c.if-history-lt128.true)
    (then_not _ c.after_run.ensures c.in_err-owed.was (exit _ c.from_residual.ensures.1))

pub returns-then-history-lt128-clause-reads : goal.returns-then-history-lt128-clause-reads
unfolding after_value
returns-then-history-lt128-clause-reads c =
    rw (← c.next_history-history.ensures, lt-ltb 0 c.args.left c.if-left-gt0.true, lt-ltb _ 128 c.if-history-lt128.true)
    (then _ c.after_run.ensures c.in_ok-owed.was gives)

pub returns-clause-reads : goal.returns-clause-reads
unfolding after_value
returns-clause-reads c =
    let h = c.next_history-history in
    let none : ltb 0 c.args.left && ltb h.result 128 ≡ false =
    ⊎_elim (λ w. rw (lt-ltb 0 c.args.left w.0) (le-ltb h.result 128 w.1)) (λ w. rw (le-ltb 0 c.args.left w)) c.else-left-gt0.either in
    rw (← h.ensures, none) gives

pub returns-clause-kept : goal.returns-clause-kept
returns-clause-kept c = record {
  history_lt = rw c.next_history-history.ensures (history_lt c.args.c.factor c.args.h c.args.value c.requires.coded.factor_le c.requires.history_lt);
  after_run = λ o. absurd (omega arith);
}
