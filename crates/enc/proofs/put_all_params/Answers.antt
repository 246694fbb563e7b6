-- One channel's parameters, or both.
use mathlib.Core.Path.{◌≡◌}
use mathlib.Core.List.{append-nil}
use native.Mathlib.Omega.{arith}
use lib.ListN.{length-take}
use Rattle.rules.specs.Writer.{joined}
use Rattle.laws.specs.Writer.{params-length}
use Rattle.enc_bits.proofs.Sent.{sent_sent, sent_ready}
use Rattle.enc.proofs.Parts.{first-told, second-told}
use Rattle.enc.proofs.put_all_params.Goals as goal

pub put_params-requires-then-s-eq2 : goal.put_params-requires-then-s-eq2
put_params-requires-then-s-eq2 c =
    let p = c.requires in
    let g = first-told _ c.args.t p.settings p.some in
    let f = second-told _ c.args.t p.settings c.if-s-eq2.true in
    let d = c.put_params.ensures in
    let l = params-length c.args.t.first in
    let k = length-take c.args.t.first.order c.args.t.first.coefs in
    record {
      sink = record { ready = sent_ready d (omega (arith, p.room, p.ready.few, l, k, g.order_le)); room = omega (arith, d.size, p.room, p.ready.few, l, k, g.order_le) };
      quant_lt = omega (arith, f.quant_le);
      factor_lt = omega (arith, f.pb_factor_le);
      order_le = f.order_le;
    }

pub returns-then-s-eq2 : goal.returns-then-s-eq2
unfolding joined
returns-then-s-eq2 c = rw (c.if-s-eq2.true, append-nil) (sent_sent _ _ c.put_params.ensures c.put_params-then-s-eq2.ensures)

pub returns-else-s-eq2 : goal.returns-else-s-eq2
unfolding joined
returns-else-s-eq2 c =
    let one : c.args.s.num_channels ≡ 1 = omega (arith, c.if-s-eq2.false, c.requires.some, c.requires.two) in
    rw (one, append-nil) c.put_params.ensures
