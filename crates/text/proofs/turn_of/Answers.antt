-- By where the reader stands.
use Rattle.text.specs.Text.{turn_of}
use Rattle.text.proofs.turn_of.Goals as goal

pub returns-in-Between : goal.returns-in-Between
unfolding turn_of
returns-in-Between c = rw c.in-Between.is c.between.ensures

pub returns-in-Comment : goal.returns-in-Comment
unfolding turn_of
returns-in-Comment c = rw c.in-Comment.is c.comment.ensures

pub returns-in-Signed : goal.returns-in-Signed
unfolding turn_of
returns-in-Signed c = rw c.in-Signed.is c.signed.ensures

pub returns-in-Digits : goal.returns-in-Digits
unfolding turn_of
returns-in-Digits c = rw c.in-Digits.is c.digits.ensures
