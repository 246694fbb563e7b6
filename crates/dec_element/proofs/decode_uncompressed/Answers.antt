-- `decode_uncompressed` meets its contract: 16 before any sample.
use mathlib.Core.Path.{refl}
use native.Mathlib.Omega.{arith}
use Rattle.bitcursor.proofs.Laws.{exit}
use Rattle.dec_element.proofs.Sounds.{sound_refused, raw_refused, raw_short, raw_sounds}
use Rattle.dec_element.proofs.decode_uncompressed.Goals as goal

pub returns-then-h-ne0 : goal.returns-then-h-ne0
returns-then-h-ne0 c = sound_refused _ _ refl (raw_refused _ _ _ _ _ _ c.if-h-ne0.true) refl refl

pub returns-in_err-raw_samples : goal.returns-in_err-raw_samples
returns-in_err-raw_samples c =
    raw_short _ _ _ _ (omega (arith, c.if-h-ne0.false)) c.raw_samples.ensures c.in_err-raw_samples.was (exit _ c.from_residual.ensures.1)

pub returns : goal.returns
returns c = raw_sounds _ _ _ _ (omega (arith, c.if-h-ne0.false)) c.raw_samples.ensures c.in_ok-raw_samples.was
