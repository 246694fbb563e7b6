-- An accepted packet has no more samples than a frame, and a frame fits the memory.
use Rattle.std.proofs.Common.{length-take-le, sym}
use lib.ListN.{length-replicate}
use lib.IntN.{pos}
use Rattle.walk.proofs.Laws.{passage_le, read_le}
use Rattle.walk.proofs.reading.read_one.Goals as goal

pub slice_bounds-samples-end-in-Ok : goal.slice_bounds-samples-end-in-Ok
slice_bounds-samples-end-in-Ok g c = passage_le c.args.s c.requires _ _ (sym (length-replicate 32768 (pos 0))) c.decode_packet.auto.out (read_le c.decode_packet.ensures c.in-Ok.is)

pub slice_bounds-put-end : goal.slice_bounds-put-end
slice_bounds-put-end g c = sym (length-take-le _ _ (passage_le c.args.s c.requires _ _ (sym (length-replicate 32768 (pos 0))) c.decode_packet.auto.out (read_le c.decode_packet.ensures c.in-Ok.is)))
