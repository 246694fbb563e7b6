-- A number has ended only where there were digits.
use mathlib.Core.Path.{◌∙◌}
use Rattle.words.proofs.Laws.{held16}
use Rattle.text.specs.Text.{value_of}
use Rattle.text.proofs.value_of.Goals as goal

pub returns-in-Between : goal.returns-in-Between
unfolding value_of
returns-in-Between c = rw c.in-Between.is

pub returns-in-Comment : goal.returns-in-Comment
unfolding value_of
returns-in-Comment c = rw c.in-Comment.is

pub returns-in-Signed : goal.returns-in-Signed
unfolding value_of
returns-in-Signed c = rw c.in-Signed.is

pub returns-in-Digits : goal.returns-in-Digits
unfolding value_of
returns-in-Digits c = rw c.in-Digits.is (held16 _ c.signed_by.type_inv ∙ c.signed_by.ensures)
