-- `mix_in_range` meets its contract: no shift is too long.
use Prim.Native.Nat.{◌^◌}
use mathlib.Core.Path.{◌∙◌}
use native.Mathlib.Nat.{one-mul}
use native.Mathlib.Omega.{arith}
use lib.Pow.{shl_exact}
use borrow.Author.Tests.{le-leb, lt-leb}
use Rattle.rules.specs.Writer.{mix_in_range}
use Rattle.enc.proofs.Ranges.{le_both}
use Rattle.enc.proofs.mix_in_range.Goals as goal

pub returns-then-mix_bits-gt7 : goal.returns-then-mix_bits-gt7
unfolding mix_in_range
returns-then-mix_bits-gt7 c = rw (lt-leb c.args.mix_bits 7 c.if-mix_bits-gt7.true)

pub returns : goal.returns
unfolding mix_in_range
returns c =
    let w = shl_exact 1 c.args.mix_bits 32 (omega arith) (omega arith) ∙ one-mul (2 ^ c.args.mix_bits) in
    rw (w, le-leb c.args.mix_bits 7 c.if-mix_bits-gt7.false, ← le_both)
