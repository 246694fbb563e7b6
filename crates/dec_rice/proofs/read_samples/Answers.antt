-- Zeros that a run owes, or samples that are read: what is done, and what the rules read from here, is the whole.
use Rattle.std.proofs.Common.{◌∙◌, arith}
use Rattle.words.proofs.Laws.{held32}
use Rattle.bitcursor.proofs.Laws.{exit}
use Rattle.dec_rice.proofs.Loop.{going_start, going_zero, going_next, going_cut, going_end}
use Rattle.dec_rice.proofs.read_samples.Goals as goal
use Rattle.dec_rice.proofs.read_samples.Goals.{then-state-gt0, else-state-gt0+in_ok-step}

pub loop-i-init : goal.loop-i-init
loop-i-init c = going_start _ _ _ _ (omega arith)

pub returns-in_err-step : goal.returns-in_err-step
returns-in_err-step c =
    rw (exit _ c.from_residual.ensures.1)
    (going_cut c.loop-i.invariant c.loop-i-test.true c.if-state-gt0.false (omega (arith, c.loop-i.invariant.places)) c.next_sample.ensures.reads c.in_err-step.was)

pub loop-i-preserved : goal.loop-i-preserved
loop-i-preserved c =
    elim c.if-state-gt0.branch [
      | then-state-gt0 w ↦ rw (w.bits-is, w.buf-is, w.state-is) (going_zero c.loop-i.invariant c.loop-i-test.true w.if-state-gt0.true)
      | else-state-gt0+in_ok-step w ↦
          rw (w.bits-is, w.buf-is, w.state-is)
          (going_next c.loop-i.invariant c.loop-i-test.true w.if-state-gt0.false (omega (arith, c.loop-i.invariant.places)) w.next_sample.ensures.reads w.in_ok-step.was
          w.in_ok-step.ensures.kept (held32 w.unfold.result w.unfold.type_inv ∙ w.unfold.ensures))
    ]

pub returns : goal.returns
returns c = going_end c.loop-i.invariant (omega arith)
