-- `short_code` meets its contract: the front in one number, and the remainder after it.
use Prim.Native.Nat.{◌+◌, ◌-◌, ◌*◌}
use mathlib.Core.List.{◌∷◌, ◌++◌}
use native.Mathlib.Omega.{arith}
use lib.ListN.{replicate}
use lib.Pow.{pow_mono}
use Rattle.rules.specs.Writer.{rest_bits}
use Rattle.enc_rice.specs.Code.{Codes}
use Rattle.enc_rice.proofs.Codes.{short_zero, short_more}
use Rattle.enc_rice.proofs.short_code.Goals as goal

pub overflow_sub-front : goal.overflow_sub-front
overflow_sub-front c = omega (arith, c.pow2-front.ensures, pow_mono {i = 1} {j = c.args.q + 1} (omega arith))

pub returns-then-r-eq0 : goal.returns-then-r-eq0
returns-then-r-eq0 c =
    let zero-code : let a = c.args in
    Codes (replicate a.q 1 ++ 0 ∷ rest_bits a.k a.r) (record { bits = (c.pow2-front.result - 2) * c.pow2.result; len = a.q + 1 + (a.k - 1) }) = short_zero c.requires c.pow2-front.ensures c.pow2.ensures c.if-r-eq0.true in
    zero-code

pub returns : goal.returns
returns c =
    let more-code : let a = c.args in
    Codes (replicate a.q 1 ++ 0 ∷ rest_bits a.k a.r) (record { bits = (c.pow2-front.result - 2) * c.pow2-2.result + (a.r + 1); len = a.q + 1 + a.k }) = short_more c.requires c.pow2-front.ensures c.pow2-2.ensures (omega arith) in
    more-code
