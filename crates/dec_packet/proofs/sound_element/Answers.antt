-- 5 before the element, 15 after it.
use mathlib.Core.Path.{◌∙◌}
use native.Mathlib.Omega.{arith}
use borrow.Author.Tests.{eq-eqb, ne_eqb}
use Rattle.bitcursor.proofs.Laws.{exit}
use Rattle.dec_packet.proofs.Laws.{agrees_known, sound_room, sound_many, samples_le, heard_refused, heard-agrees, heard_disagrees}
use Rattle.dec_packet.proofs.sound_element.Goals as goal

pub returns-then-s-st : goal.returns-then-s-st
returns-then-s-st c = sound_many _ _ c.if-s-st.true

pub returns-in_err-samples : goal.returns-in_err-samples
returns-in_err-samples c =
    rw (exit _ c.from_residual.ensures.1) (sound_room _ _ c.if-s-st.false (heard_refused _ _ _ _ c.decode_audio_element.ensures c.requires.can.room c.in_err-samples.was))

pub returns-then-known-samples : goal.returns-then-known-samples
returns-then-known-samples c =
    let differ = agrees_known c.args.st.samples _ ∙ rw (← c.unwrap_or-known.ensures) (ne_eqb _ _ (λ e. omega (arith, c.if-known-samples.true, e))) in
    sound_room _ _ c.if-s-st.false (heard_disagrees _ _ _ _ c.decode_audio_element.ensures c.requires.can.room c.in_ok-samples.was c.requires.some c.requires.two differ)

pub returns : goal.returns
returns c =
    let agreed = agrees_known c.args.st.samples _ ∙ rw (← c.unwrap_or-known.ensures) (eq-eqb _ _ (omega (arith, c.if-known-samples.false))) in
    let short = samples_le _ _ c.requires.some c.decode_audio_element.ensures c.in_ok-samples.was in
    sound_room _ _ c.if-s-st.false
    (heard-agrees _ _ _ _ c.decode_audio_element.ensures c.requires.can.room c.in_ok-samples.was c.requires.some c.requires.two c.if-s-st.false short agreed)
