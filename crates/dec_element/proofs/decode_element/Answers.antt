-- `decode_element` meets its contract: the header, then the body that it names.
use Rattle.bitcursor.proofs.Laws.{value_of, refused_of, exit}
use Rattle.dec_element.proofs.Sounds.{sound_refused, sounds_on, header_refused, body_compressed, body_raw}
use mathlib.Core.Path.{refl}
use Rattle.dec_element.proofs.decode_element.Goals as goal

pub returns-in_err-h : goal.returns-in_err-h
returns-in_err-h c =
    let t = c.read_header.ensures.reads in
    sound_refused _ _ (exit _ c.from_residual.ensures.1) (header_refused _ _ _ _ (refused_of t c.in_err-h.was)) t.same refl

pub returns-then-h-eq0 : goal.returns-then-h-eq0
returns-then-h-eq0 c =
    let t = c.read_header.ensures.reads in
    sounds_on t.same (body_compressed _ _ _ _ (value_of t c.in_ok-h.was) c.if-h-eq0.true) c.decode_compressed.ensures

pub returns-else-h-eq0 : goal.returns-else-h-eq0
returns-else-h-eq0 c =
    let t = c.read_header.ensures.reads in
    sounds_on t.same (body_raw _ _ _ _ (value_of t c.in_ok-h.was) c.if-h-eq0.false) c.decode_uncompressed.ensures
