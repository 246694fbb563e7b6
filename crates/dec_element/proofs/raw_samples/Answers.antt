-- Each turn reads a row; the rows done, before what the rule makes of the rest, are what it makes of all.
use Rattle.bitcursor.proofs.Laws.{exit}
use Rattle.dec_element.proofs.Raw.{filling_start, filling_cut, filling_next, filling_done}
use Rattle.dec_element.proofs.raw_samples.Goals as goal

pub loop-i-init : goal.loop-i-init
loop-i-init c = filling_start _ _ _ _ _ _

pub returns-in_err-raw_row : goal.returns-in_err-raw_row
returns-in_err-raw_row c =
    filling_cut _ _ _ _ c.requires.roomy c.loop-i.invariant c.loop-i-test.true c.raw_row.ensures c.in_err-raw_row.was (exit _ c.from_residual.ensures.1)

pub loop-i-preserved : goal.loop-i-preserved
loop-i-preserved c =
    filling_next _ _ _ _ c.requires.roomy c.loop-i.invariant c.loop-i-test.true c.raw_row.ensures c.in_ok-raw_row.was

pub returns : goal.returns
returns c = filling_done _ _ _ _ c.requires.roomy c.loop-i.invariant c.loop-i-test.false
