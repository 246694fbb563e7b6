-- A row is one sample, or two.
use native.Mathlib.Omega.{arith}
use Rattle.bitcursor.proofs.Laws.{exit}
use Rattle.dec_element.proofs.Raw.{rows_cut, rows_one, rows_two}
use Rattle.dec_element.proofs.raw_row.Goals as goal

pub returns-in_err-raw_at : goal.returns-in_err-raw_at
returns-in_err-raw_at c =
    let a = c.requires.roomy in
    rows_cut _ _ _ c.raw_at.ensures a.short _ a.some c.in_err-raw_at.was (exit _ c.from_residual.ensures.1)

pub returns-then-channels-eq1 : goal.returns-then-channels-eq1
returns-then-channels-eq1 c =
    rows_one _ _ _ c.raw_at.ensures c.requires.roomy.short c.in_ok-raw_at.was _ c.if-channels-eq1.true

pub returns : goal.returns
returns c =
    let a = c.requires.roomy in
    rows_two _ _ _ c.raw_at.ensures a.short c.in_ok-raw_at.was _ (omega (arith, c.if-channels-eq1.false, a.some, a.two)) c.raw_at-2.ensures
