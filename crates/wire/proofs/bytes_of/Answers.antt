-- The first i samples are written after i turns.
use native.Mathlib.Nat.{mod-eq_of_lt}
use native.Mathlib.Omega.{arith}
use lib.IntN.{pos}
use lib.ListN.{get_or}
use mir.Syntax.{w16}
use Rattle.words.proofs.Laws.{held16, bits_are}
use Rattle.wire.proofs.Laws.{high_small, writing_next, writing_done}
use Rattle.wire.proofs.bytes_of.Goals as goal

pub loop-i-preserved : goal.loop-i-preserved
loop-i-preserved c =
    let sample = get_or c.args.samples.now c.loop-i.i (pos 0) in
    let small = c.to_le_bytes-arg-1.given in
    let word = bits_are w16 sample (record { sfits = small }) in
    rw (c.to_le_bytes.ensures, held16 sample small, mod-eq_of_lt (high_small _ sample word)) (writing_next _ _ _ c.loop-i.invariant _ (omega arith) word)

pub returns : goal.returns
returns c = writing_done _ _ _ c.loop-i.invariant (omega arith)
