-- By the sign: -1 - x is not below zero where x is.
use native.Mathlib.Omega.{arith}
use mathlib.Core.Path.{◌≡◌, ap, ◌∙◌}
use mathlib.Core.Bool.{true, false}
use lib.IntN.{ℤ, pos, negsuc, ◌-ℤ◌}
use lib.Signed.{mag, le_z}
use mir.Syntax.{w32}
use mir.Val.{SFits, to_z, of_z}
use mir.Facts.{to_z-of_z}
use Rattle.rules.specs.Words.{folded}
use Rattle.words.proofs.Laws.{held32, from_zero, below_zero, minus_one_minus}
use Rattle.words.proofs.fold.Goals as goal

module _ (x : ℤ) (h : SFits w32 x) where
  held : to_z w32 (of_z w32 x) ≡ x
  held = to_z-of_z h

  above : le_z (pos 0) (to_z w32 (of_z w32 x)) ≡ true → x ≡ pos (mag x)
  above e = from_zero x (rw held at e)

  below : le_z (pos 0) (to_z w32 (of_z w32 x)) ≡ false → x ≡ negsuc (mag x)
  below e = below_zero x (rw held at e)

  is_pos : le_z (pos 0) (to_z w32 (of_z w32 x)) ≡ true → to_z w32 (of_z w32 x) ≡ pos (mag x)
  is_pos e = held ∙ above e

  less : le_z (pos 0) (to_z w32 (of_z w32 x)) ≡ false → negsuc 0 -ℤ to_z w32 (of_z w32 x) ≡ pos (mag x)
  less e = ap (λ (z : ℤ). negsuc 0 -ℤ z) (held ∙ below e) ∙ minus_one_minus (mag x)

  back : to_z w32 (of_z w32 (pos (mag x))) ≡ pos (mag x)
  back = held32 (pos (mag x)) h.sfits

pub returns-then-x-ge0 : goal.returns-then-x-ge0
unfolding folded
returns-then-x-ge0 c = rw (is_pos _ c.ranges.x c.if-x-ge0.true, above _ c.ranges.x c.if-x-ge0.true) (omega arith)

pub returns-else-x-ge0 : goal.returns-else-x-ge0
unfolding folded
returns-else-x-ge0 c = rw (less _ c.ranges.x c.if-x-ge0.false, back _ c.ranges.x, below _ c.ranges.x c.if-x-ge0.false) (omega arith)
