-- `symbol_code` meets its contract: quotient and remainder, or the escape.
use Prim.Native.Nat.{◌+◌, ◌*◌, ◌/◌, ◌%◌, ◌<◌, ◌≤◌}
use native.Mathlib.Omega.{arith}
use Rattle.rules.specs.Rice.{symbol_m}
use Rattle.rules.specs.Writer.{symbol_bits}
use Rattle.enc_rice.specs.Code.{Codes}
use Rattle.enc_rice.proofs.Codes.{m_pos, symbol-parts, symbol_short, symbol_escape}
use Rattle.enc_rice.proofs.symbol_code.Goals as goal

pub nonzero_div-q : goal.nonzero_div-q
nonzero_div-q c = omega (arith, c.symbol_m-m.ensures, m_pos c.requires)

pub nonzero_rem-v : goal.nonzero_rem-v
nonzero_rem-v c = omega (arith, c.symbol_m-m.ensures, m_pos c.requires)

pub short_code-requires : goal.short_code-requires
short_code-requires c =
    let e = c.symbol_m-m.ensures in
    let small : c.args.v / c.symbol_m-m.result < 9 = omega arith in
    rw e (symbol-parts c.requires c.args.v (rw e at small))

pub returns-then-q-lt9 : goal.returns-then-q-lt9
returns-then-q-lt9 c =
    let e = c.symbol_m-m.ensures in
    rw (symbol_short c.requires c.args.v (rw e at c.if-q-lt9.true)) (rw e at c.short_code.ensures)

pub returns : goal.returns
returns c =
    let large : 9 ≤ c.args.v / c.symbol_m-m.result = omega arith in
    let escape : let a = c.args in
    Codes (symbol_bits a.k (symbol_m a.k) a.b a.v) (record { bits = 511 * c.pow2-unit.result + a.v % c.pow2-unit.result; len = 9 + a.b }) = symbol_escape c.requires c.args.v c.pow2-unit.ensures (rw c.symbol_m-m.ensures at large) in
    escape
