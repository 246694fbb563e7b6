-- `put_channel` meets its contract: the residuals in scratch are written, and scratch is cleared of them.
use mathlib.Core.Path.{◌≡◌, ◌∙◌}
use mathlib.Core.List.{◌++◌}
use native.Mathlib.Nat.{sub-zero}
use native.Mathlib.Omega.{arith}
use lib.ListN.{length, drop}
use Rattle.laws.specs.Writer.{samples_of, residuals_of}
use Prim.Native.Nat.{◌+◌, ◌-◌, ◌*◌}
use mathlib.Core.Path.{refl}
use lib.ListN.{length-append}
use Rattle.enc_channel.proofs.Steps.{channel_bits, residuals_count}
use Rattle.enc_channel.proofs.Steps.{lane-length, second_part, cleared_over}
use Rattle.enc_channel.specs.Channel.{lane_of}
use Rattle.enc_channel.proofs.put_channel.Goals as goal

pub returns : goal.returns
returns c =
    let a = c.args in
    let p = c.requires in
    let f = p.passes in
    let n = samples_of a.s a.passage.now in
    let b = a.s.bit_depth + a.s.num_channels - 1 in
    let xs = lane_of a.s a.t a.passage.now a.which in
    let es = (residuals_of b a.c xs).values in
    let more = drop (n + n) a.scratch.now in
    let xs-length : length xs ≡ n = lane-length f p.there in
    let es-length : length es ≡ n = residuals_count b a.c xs ∙ xs-length in
    let zs-are = rw (sub-zero a.s.bit_depth) at c.fill.ensures in
    let zs-length : length (xs ++ es) ≡ n + n = omega (arith, length-append xs es) in
    record {
      sent = rw (sub-zero a.s.bit_depth, channel_bits) (rw (zs-are, second_part xs es more xs-length es-length refl) at c.put_codes.ensures);
      left = rw zs-are at c.clear.ensures ∙ cleared_over (2 * a.s.frame_length) (xs ++ es) a.scratch.now zs-length (omega (arith, f.rows_le)) p.places;
    }
