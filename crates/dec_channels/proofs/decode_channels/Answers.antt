-- One channel, or one and then the other, each in its half.
use mathlib.Core.Path.{◌∙◌}
use Rattle.rules.specs.Element.{channel}
use Rattle.bitcursor.proofs.Laws.{exit}
use Rattle.dec_header.specs.Plan.{params_of}
use Rattle.dec_channels.proofs.Laws.{plan_refused, all_one, all_two, one_fills, two_fill, refused_fills, length-first, length-second}
use Rattle.dec_channels.proofs.decode_channels.Goals as goal

pub returns-in_err-decode_channel : goal.returns-in_err-decode_channel
returns-in_err-decode_channel c =
    let n = length-first c.requires.roomy in
    let first = rw n at c.decode_channel.ensures in
    rw (exit _ c.from_residual.ensures.1)
    (refused_fills c.requires.roomy c.decode_channel.new.buf (c.decode_channel.auto.buf ∙ n) (plan_refused (λ packet. channel packet c.args.s c.args.n c.args.bps) c.args.plan.first c.args.plan.second first c.in_err-decode_channel.was))

pub returns-in-None : goal.returns-in-None
returns-in-None c =
    let n = length-first c.requires.roomy in
    let first = rw n at c.decode_channel.ensures in
    one_fills c.requires.roomy c.decode_channel.new.buf (c.decode_channel.auto.buf ∙ n) (rw c.in-None.is)
    (rw c.in-None.is (all_one (λ packet. channel packet c.args.s c.args.n c.args.bps) (params_of c.args.plan.first) first c.in_ok-decode_channel.was))

pub returns-in-Some : goal.returns-in-Some
returns-in-Some c =
    let n = length-first c.requires.roomy in
    let first = rw n at c.decode_channel.ensures in
    let ys = c.decode_channel.new.buf in
    let m = length-second c.requires.roomy ys (c.decode_channel.auto.buf ∙ n) in
    let second = rw m at c.decode_channel-in-Some.ensures in
    two_fill c.requires.roomy ys c.decode_channel-in-Some.new.buf (c.decode_channel.auto.buf ∙ n) (c.decode_channel-in-Some.auto.buf ∙ m) (rw c.in-Some.is)
    (rw c.in-Some.is (all_two (λ packet. channel packet c.args.s c.args.n c.args.bps) (params_of c.args.plan.first) first c.in_ok-decode_channel.was (params_of c.in-Some.second) _ second))
