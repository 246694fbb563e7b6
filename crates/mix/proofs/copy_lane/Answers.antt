-- What is copied and what is left of the lane make the lane.
use native.Mathlib.Omega.{arith}
use mir.Syntax.{w16, w32}
use Rattle.words.proofs.Laws.{wide}
use Rattle.mix.proofs.PassageTurns.{filling_start, filling_next, filling_done, lane-start, lane-next, lane_end}
use Rattle.mix.proofs.copy_lane.Goals as goal

pub loop-i-init : goal.loop-i-init
loop-i-init c = filling_start (lane-start _ _ _)

pub loop-i-preserved : goal.loop-i-preserved
loop-i-preserved c =
    filling_next c.loop-i.invariant c.loop-i-test.true (lane-next _ _ _ _ _ c.requires.which_lt_channels c.requires.passage_len c.loop-i-test.true)
    (wide w16 w32 tt _ (record { sfits = omega arith }))

pub returns : goal.returns
returns c =
    filling_done c.loop-i.invariant c.loop-i-test.false (lane_end _ _ _ _ _ c.requires.which_lt_channels c.requires.passage_len c.loop-i-test.false)
