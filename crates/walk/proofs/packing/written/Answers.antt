-- A packet lies in the lent bytes.
use Rattle.std.proofs.Common.{arith, sym, length-take-le}
use Rattle.walk.proofs.Laws.{packed_le}
use Rattle.walk.proofs.packing.written.Goals as goal

pub slice_bounds-places-end : goal.slice_bounds-places-end
slice_bounds-places-end g c = omega (arith, packed_le c.encode_packet_i16.ensures c.in-Ok.is, c.encode_packet_i16.auto.bytes)

pub slice_bounds-put_packet-end : goal.slice_bounds-put_packet-end
slice_bounds-put_packet-end g c = sym (length-take-le _ _ (omega (arith, packed_le c.encode_packet_i16.ensures c.in-Ok.is, c.encode_packet_i16.auto.bytes)))
