-- One channel and mix_res 0 stay; otherwise the rule unmixes a pair.
use mathlib.Core.Path.{◌≡◌, sym, ap, ◌∙◌}
use mathlib.Core.Logic.{inl, inr}
use native.Mathlib.Omega.{arith}
use mir.Syntax.{w32}
use mir.Val.{to_z, of_z}
use mir.ValLaws.{to_z_pos}
use Rattle.rules.specs.Words.{signed, wrap}
use Rattle.laws.specs.Words.{wrap_pos}
use Rattle.buffers.specs.Halves.{parts}
use Rattle.words.proofs.Laws.{held32}
use Rattle.mix.proofs.Finished.{unmixed_pair, one_stays, unmixed_stays}
use Rattle.mix.proofs.unmix.Goals as goal

pub returns-else-channels-eq2 : goal.returns-else-channels-eq2
returns-else-channels-eq2 c =
    let a = c.args in
    let r = c.requires.roomy in
    sym (elim c.else-channels-eq2.either [
      | inl zero ↦ unmixed_stays a.half a.n a.channels a.scratch.now r a.mix_bits a.mix_res zero.1
      | inr one ↦ one_stays a.half a.n a.channels a.scratch.now r a.mix_bits (signed 8 a.mix_res) (omega (arith, one, r.some, r.two))
    ])

pub returns-then-mix_res-ne0 : goal.returns-then-mix_res-ne0
returns-then-mix_res-ne0 c =
    let v = c.args.mix_res in
    let res : to_z w32 (of_z w32 c.sign_extend.result) ≡ signed 8 v =
    held32 c.sign_extend.result c.sign_extend.type_inv ∙ c.sign_extend.ensures ∙ ap (wrap 8) (to_z_pos w32 v (omega (arith, c.requires.byte))) ∙ wrap_pos 8 v c.requires.byte in
    rw (c.if-channels-eq2.true, ← unmixed_pair c.args.mix_bits v (to_z w32 (of_z w32 c.sign_extend.result)) (parts c.args.half c.args.n 2 c.args.scratch.now) c.if-mix_res-ne0.true res)
    c.unmix_stereo.ensures
