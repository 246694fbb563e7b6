-- `decode_audio_element` meets its contract: a refusal's scratch is cleared, any other is as it was left.
use mathlib.Core.Path.{sym, ◌∙◌}
use Rattle.dec_element.proofs.Sounds.{hears_value, hears_refusal}
use Rattle.dec_element.proofs.decode_audio_element.Goals as goal

pub returns-then-is_err : goal.returns-then-is_err
returns-then-is_err c =
    hears_refusal _ _ _ _ (sym c.is_err.ensures.value ∙ c.if-is_err.true) c.decode_element-heard.ensures c.decode_element-heard.auto.scratch c.clear.ensures

pub returns-else-is_err : goal.returns-else-is_err
returns-else-is_err c = hears_value _ _ _ _ (sym c.is_err.ensures.value ∙ c.if-is_err.false) c.decode_element-heard.ensures
