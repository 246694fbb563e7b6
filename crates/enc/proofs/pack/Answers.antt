-- `pack` meets its contract: what covers the limit is written at once, what may not fit is measured first.
use Prim.Native.Nat.{◌≤◌}
use mathlib.Core.Path.{◌∙◌}
use native.Mathlib.Omega.{arith}
use borrow.Author.Tests.{le-leb}
use lib.ListN.{length}
use lib.IntN.{pos}
use Rattle.rules.specs.Writer.{packet_bytes}
use Rattle.laws.specs.Writer.{told, packet_bytes_limit}
use Rattle.laws.specs.Reader.{cleared-cleared}
use Rattle.enc.proofs.Packs.{measured}
use Rattle.enc.proofs.pack.Goals as goal

pub nonzero_div-n : goal.nonzero_div-n
nonzero_div-n c =
    let a = c.args in
    omega (arith, (told a.s a.t a.passage.now c.requires.writable).channels_ge)

pub byte_limit-requires : goal.byte_limit-requires
byte_limit-requires c =
    let a = c.args in
    let f = told a.s a.t a.passage.now c.requires.writable in
    record { some = f.channels_ge; two = f.channels_le; short = omega (arith, f.rows_le, f.frame_le) }

pub returns-then-byte_limit-bytes : goal.returns-then-byte_limit-bytes
returns-then-byte_limit-bytes c =
    let a = c.args in
    let w = c.requires.writable in
    let l = packet_bytes_limit a.s a.t a.passage.now w in
    let fits : length (packet_bytes a.s a.t a.passage.now) ≤ length a.bytes.now = omega (arith, l, c.byte_limit.ensures, c.if-byte_limit-bytes.true) in
    let e = c.emit.ensures in
    record { answer = rw (le-leb _ _ fits, e.count); bytes = rw (le-leb _ _ fits) e.bytes; left = e.left }

pub returns : goal.returns
returns c =
    let a = c.args in
    let w = packet_bytes a.s a.t a.passage.now in
    let e = c.emit-length.ensures in
    let d = c.emit-2.ensures in
    let same = measured w a.bytes.now e.bytes in
    let fits : length w ≤ length a.bytes.now = rw (same, e.count) at c.if-bytes-length.false in
    record {
      answer = rw (le-leb (length w) (length a.bytes.now) fits, d.count);
      bytes = rw (le-leb (length w) (length a.bytes.now) fits) (d.bytes ∙ rw same);
      left = d.left ∙ rw e.left (cleared-cleared (pos 0) _ a.scratch.now c.requires.places);
    }
