-- What went out and the coefficients that are left are all of them.
use Prim.Native.Nat.{◌^◌}
use mathlib.Core.Path.{ap, ◌∙◌}
use Rattle.rules.specs.Words.{mod_z}
use Rattle.words.proofs.Laws.{held16}
use Rattle.enc_bits.proofs.Around.{putting_takes, putting_next, putting_done}
use Rattle.enc_bits.proofs.Sink.put_coefs.Goals as goal

pub put-requires : goal.put-requires
put-requires c = putting_takes c.loop-j.invariant c.requires _ c.bits16_of.ensures

pub loop-j-preserved : goal.loop-j-preserved
loop-j-preserved c =
    let bits_are = c.bits16_of.ensures ∙ ap (mod_z (2 ^ 16)) (held16 _ c.bits16_of-arg-1.given) in
    putting_next c.loop-j.invariant c.loop-j-test.true bits_are c.put.ensures

pub returns : goal.returns
returns c = putting_done c.loop-j.invariant c.loop-j-test.false
