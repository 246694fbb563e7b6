-- `emit` meets its contract: the parts go out one after the other, and are the packet.
use native.Mathlib.Omega.{arith}
use Rattle.laws.specs.Writer.{told}
use Rattle.enc_bits.proofs.Sent.{sent_ready}
use Rattle.enc.proofs.Parts.{parts_lt, parts_sent}
use Rattle.enc.proofs.emit.Goals as goal

pub nonzero_div-n : goal.nonzero_div-n
nonzero_div-n c =
    let a = c.args in
    omega (arith, (told a.s a.t a.passage.now c.requires.writable).channels_ge)

pub overflow_cast-n-2 : goal.overflow_cast-n-2
overflow_cast-n-2 c =
    let a = c.args in
    let f = told a.s a.t a.passage.now c.requires.writable in
    record { fits = omega (arith, f.rows_le, f.frame_le) }

pub put_head-requires : goal.put_head-requires
put_head-requires c =
    let a = c.args in
    let f = told a.s a.t a.passage.now c.requires.writable in
    rw c.new-sink.ensures (record { sink = record { ready = record { few = omega arith; small = omega arith; room = omega arith }; room = omega arith }; some = f.channels_ge; few = omega (arith, f.channels_le); bits_lt = omega (arith, f.mix_bits_le); res_lt = omega (arith, f.mix_res_le) })

pub put_all_params-requires : goal.put_all_params-requires
put_all_params-requires c =
    let a = c.args in
    let w = c.requires.writable in
    let f = told a.s a.t a.passage.now w in
    let l = parts_lt a.s a.t a.passage.now w in
    let d = rw c.new-sink.ensures at c.put_head.ensures in
    record { some = f.channels_ge; two = f.channels_le; settings = f.channels_in; ready = sent_ready d (omega (arith, l)); room = omega (arith, d.size, l) }

pub put_channels-requires : goal.put_channels-requires
put_channels-requires c =
    let a = c.args in
    let w = c.requires.writable in
    let l = parts_lt a.s a.t a.passage.now w in
    let d = rw c.new-sink.ensures at c.put_head.ensures in
    let e = c.put_all_params.ensures in
    record { passes = told a.s a.t a.passage.now w; places = c.requires.places; ready = sent_ready e (omega (arith, d.size, l)); room = omega (arith, d.size, e.size, l) }

pub put_end-requires : goal.put_end-requires
put_end-requires c =
    let a = c.args in
    let l = parts_lt a.s a.t a.passage.now c.requires.writable in
    let d = rw c.new-sink.ensures at c.put_head.ensures in
    let e = c.put_all_params.ensures in
    let f = c.put_channels.ensures.sent in
    record { ready = sent_ready f (omega (arith, d.size, e.size, l)); room = omega (arith, d.size, e.size, f.size, l) }

pub returns : goal.returns
returns c =
    let a = c.args in
    let p = parts_sent a.s a.t a.passage.now (rw c.new-sink.ensures at c.put_head.ensures) c.put_all_params.ensures c.put_channels.ensures.sent c.put_end.ensures in
    record { bytes = p.0; count = p.1; left = c.put_channels.ensures.left }
