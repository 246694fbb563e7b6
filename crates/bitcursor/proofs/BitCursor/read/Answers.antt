-- `read` meets its contract.
use Prim.Native.Nat.{◌+◌, ◌*◌, ◌/◌, ◌%◌}
use mathlib.Core.Path.{◌≡◌, refl}
use native.Mathlib.Omega.{arith}
use Rattle.rules.specs.Bits.{num}
use Rattle.bitcursor.specs.Reads.{told}
use Rattle.bitcursor.proofs.Laws.{passed, refused, bit_next, half_lt}
use Rattle.bitcursor.proofs.BitCursor.read.Goals as goal

pub returns-then-not-enough : goal.returns-then-not-enough
unfolding told
returns-then-not-enough c =
    let s = c.self.inside in
    rw (← c.self.view_is) (record { tells = refused s.packet.now c.args.bits _ (s.byte * 8 + s.bit) (c.enough.ensures.no_lt c.if-not-enough.true); same = refl })

pub loop-i-init : goal.loop-i-init
unfolding num
loop-i-init c = (refl, c.enough.ensures.yes_le c.if-not-enough.false)

pub overflow_mul-v : goal.overflow_mul-v
overflow_mul-v c =
    let s = c.self.inside in
    omega (arith, half_lt s.packet.now c.loop-i.i (s.byte * 8 + s.bit) (omega arith) (omega arith))

pub overflow_add-v : goal.overflow_add-v
overflow_add-v c =
    let s = c.self.inside in
    omega (arith, half_lt s.packet.now c.loop-i.i (s.byte * 8 + s.bit) (omega arith) (omega arith))

pub loop-i-preserved : goal.loop-i-preserved
loop-i-preserved c =
    let s = c.self.inside in
    (bit_next s.packet.now s.byte s.bit c.loop-i.i (omega arith) c.loop-i.invariant.0, c.loop-i.invariant.1)

pub returns : goal.returns
unfolding told
returns c =
    let s = c.self.inside in
    let l = c.loop-i in
    let end = s.bit + c.args.bits in
    let whole : l.i ≡ c.args.bits = omega arith in
    rw (← c.self.view_is) (record {
      tells = rw (l.invariant.0, whole) (passed s.packet.now c.args.bits _ (s.byte * 8 + s.bit) (s.byte + end / 8) (end % 8) l.invariant.1 (omega arith));
      same = refl;
    })
