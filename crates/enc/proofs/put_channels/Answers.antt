-- One channel's Rice data, or both.
use mathlib.Core.Path.{◌≡◌, ◌∙◌}
use mathlib.Core.List.{append-nil}
use native.Mathlib.Omega.{arith}
use lib.ListN.{length}
use lib.IntN.{pos}
use Rattle.rules.specs.Writer.{written_bits}
use Rattle.laws.specs.Writer.{channel-length, written_bits_lem, samples_of}
use Rattle.laws.specs.Buffers.{laid-length}
use Rattle.enc_bits.proofs.Sent.{sent_sent, sent_ready}
use Rattle.enc_channel.specs.Channel.{lane_of}
use Rattle.enc_channel.proofs.Steps.{lane-length}
use Rattle.laws.specs.Reader.{cleared-cleared}
use Rattle.enc.proofs.Parts.{first-told, second-told, codes_one, codes_two}
use Rattle.enc.proofs.put_channels.Goals as goal

pub put_channel-requires-then-s-eq2 : goal.put_channel-requires-then-s-eq2
put_channel-requires-then-s-eq2 c =
    let a = c.args in
    let p = c.requires in
    let f = p.passes in
    let two = c.if-s-eq2.true in
    let xs = lane_of a.s a.t a.passage.now 0 in
    let short = channel-length a.s (written_bits a.s a.t) f.mb_lt (written_bits_lem a.s a.t a.passage.now f).1 a.t.first xs (first-told _ a.t f.channels_in f.channels_ge) in
    let xs-length : length xs ≡ samples_of a.s a.passage.now = lane-length f f.channels_ge in
    let d = c.put_channel.ensures.sent in
    record {
      passes = f;
      settings = second-told _ a.t f.channels_in two;
      there = omega (arith, two);
      places = rw (c.put_channel.ensures.left, laid-length) p.places;
      ready = sent_ready d (omega (arith, p.room, p.ready.few, short, xs-length, f.rows_le, f.frame_le));
      room = omega (arith, d.size, p.room, p.ready.few, short, xs-length, f.rows_le, f.frame_le);
    }

pub returns-then-s-eq2 : goal.returns-then-s-eq2
returns-then-s-eq2 c =
    let a = c.args in
    record {
      sent = rw (codes_two a.s a.t a.passage.now c.if-s-eq2.true, append-nil) (sent_sent _ _ c.put_channel.ensures.sent c.put_channel-then-s-eq2.ensures.sent);
      left = c.put_channel-then-s-eq2.ensures.left ∙ (rw c.put_channel.ensures.left (cleared-cleared (pos 0) _ a.scratch.now c.requires.places));
    }

pub returns-else-s-eq2 : goal.returns-else-s-eq2
returns-else-s-eq2 c =
    let a = c.args in
    let f = c.requires.passes in
    let one : a.s.num_channels ≡ 1 = omega (arith, c.if-s-eq2.false, f.channels_ge, f.channels_le) in
    record { sent = rw (codes_one a.s a.t a.passage.now one, append-nil) c.put_channel.ensures.sent; left = c.put_channel.ensures.left }
