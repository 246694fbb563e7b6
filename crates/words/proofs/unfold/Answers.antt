-- By whether v is even. Half of a word fits a signed word.
use borrow.Author.Tests.{eq-eqb, ne_eqb}
use native.Mathlib.Omega.{arith}
use Prim.Native.Nat.{ℕ, ◌/◌, ◌<◌, ◌^◌}
use mathlib.Core.Path.{◌≡◌, ap, ◌∙◌}
use lib.IntN.{ℤ, negsuc, ◌-ℤ◌}
use mir.Syntax.{w32}
use mir.Val.{Fits, to_z}
use mir.Facts.{to_z_pos}
use Rattle.rules.specs.Words.{unfolded}
use Rattle.words.proofs.Laws.{held32, minus_one_less}
use Rattle.words.proofs.unfold.Goals as goal

low : {v : ℕ} → Fits w32 v → v / 2 < 2 ^ 31
low h = omega (arith, h.fits)

less : {v : ℕ} → Fits w32 v → negsuc 0 -ℤ to_z w32 (v / 2) ≡ negsuc (v / 2)
less {v} h = ap (λ (z : ℤ). negsuc 0 -ℤ z) (to_z_pos w32 (low h)) ∙ minus_one_less (v / 2)

pub returns-then-v-eq0 : goal.returns-then-v-eq0
unfolding unfolded
returns-then-v-eq0 c = rw (to_z_pos w32 (low c.ranges.v), eq-eqb _ _ c.if-v-eq0.true)

pub returns-else-v-eq0 : goal.returns-else-v-eq0
unfolding unfolded
returns-else-v-eq0 c = rw (less c.ranges.v, held32 (negsuc (c.args.v / 2)) (low c.ranges.v), ne_eqb _ _ c.if-v-eq0.false)
