-- Rice data first, then the mode, then prediction.
use Rattle.rules.specs.Element.{channel}
use Rattle.bitcursor.proofs.Laws.{exit}
use Rattle.dec_header.specs.Plan.{params_of}
use Rattle.dec_channels.proofs.Laws.{from_refused, from_plain, from_summed, from_other}
use Rattle.dec_channels.proofs.decode_channel.Goals as goal

pub returns-in_err-rice_decompress : goal.returns-in_err-rice_decompress
unfolding channel
returns-in_err-rice_decompress c =
    rw (exit _ c.from_residual.ensures.1) (from_refused c.args.bps (params_of c.args.c) _ c.rice_decompress.ensures c.in_err-rice_decompress.was)

pub returns-then-c-eq0 : goal.returns-then-c-eq0
unfolding channel
returns-then-c-eq0 c = from_plain c.args.bps (params_of c.args.c) _ c.rice_decompress.ensures c.in_ok-rice_decompress.was c.if-c-eq0.true c.predict.ensures

pub returns-then-c-eq15 : goal.returns-then-c-eq15
unfolding channel
returns-then-c-eq15 c = from_summed c.args.bps (params_of c.args.c) _ c.rice_decompress.ensures c.in_ok-rice_decompress.was c.if-c-eq15.true c.sum_and_predict.ensures

pub returns : goal.returns
unfolding channel
returns c = from_other c.args.bps (params_of c.args.c) _ c.rice_decompress.ensures c.in_ok-rice_decompress.was c.if-c-eq0.false c.if-c-eq15.false
