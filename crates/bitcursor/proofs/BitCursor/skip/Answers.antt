-- `skip` meets its contract: whole bytes are passed as bytes, and the rest as bits.
use Prim.Native.Nat.{◌+◌, ◌*◌, ◌/◌, ◌%◌}
use mathlib.Core.Path.{refl}
use native.Mathlib.Omega.{arith}
use Rattle.bitcursor.specs.Reads.{told}
use Rattle.bitcursor.proofs.Laws.{passed, refused}
use Rattle.bitcursor.proofs.BitCursor.skip.Goals as goal

pub returns-then-not-enough : goal.returns-then-not-enough
unfolding told
returns-then-not-enough c =
    let s = c.self.inside in
    rw (← c.self.view_is) (record { tells = refused s.packet.now c.args.bits tt (s.byte * 8 + s.bit) (c.enough.ensures.no_lt c.if-not-enough.true); same = refl })

pub returns : goal.returns
unfolding told
returns c =
    let s = c.self.inside in
    let end = s.bit + c.args.bits % 8 in
    let fits = c.enough.ensures.yes_le c.if-not-enough.false in
    rw (← c.self.view_is) (record {
      tells = passed s.packet.now c.args.bits tt (s.byte * 8 + s.bit) (s.byte + (c.args.bits / 8 + end / 8)) (end % 8) fits (omega arith);
      same = refl;
    })
