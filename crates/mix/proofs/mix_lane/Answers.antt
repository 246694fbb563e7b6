-- One channel and mix_res 0 stay; otherwise the rule mixes a pair.
use mathlib.Core.Path.{◌≡◌}
use native.Mathlib.Omega.{arith}
use Rattle.rules.specs.Buffers.{lanes}
use Rattle.rules.specs.Mix.{mixed}
use Rattle.words.proofs.Laws.{held32, zero_bits, nonzero_bits}
use Rattle.mix.proofs.Lanes.{lanes_at, mixed_single, mixed_zero, mixed_pair}
use Rattle.mix.proofs.mix_lane.Goals as goal
use mathlib.Core.Logic.{inl, inr}

pub returns-then-channels-eq1 : goal.returns-then-channels-eq1
returns-then-channels-eq1 c =
    let xs = c.args.passage.now in
    let res = c.args.mix_res in
    let chans = lanes c.args.channels xs in
    let same : mixed c.args.mix_bits res chans ≡ chans = elim c.then-channels-eq1.either [
      | inl one ↦ mixed_single _ _ _ _ one
      | inr w ↦ mixed_zero _ _ _ (zero_bits res c.ranges.mix_res.sfits w.1)
    ] in
    rw (same, lanes_at c.args.channels c.args.which xs c.requires.there) c.copy_lane.ensures

pub returns : goal.returns
returns c =
    let two : c.args.channels ≡ 2 = omega (arith, c.requires.some, c.requires.two, c.if-channels-eq1.false) in
    let res = c.args.mix_res in
    rw (two, mixed_pair c.args.mix_bits res (lanes 2 c.args.passage.now) (nonzero_bits res c.if-mix_res-eq0.false))
    (rw (held32 res c.ranges.mix_res.sfits) at c.mix_pairs.ensures)
