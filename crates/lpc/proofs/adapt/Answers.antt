-- A turn of the loop is one step of the rule.
use Prim.Native.Nat.{ℕ, ◌<◌, ◌+◌}
use mathlib.Core.Path.{◌≡◌, sym, ◌∙◌}
use mathlib.Core.Bool.{true, false}
use mathlib.Core.List.{List, ◌++◌}
use native.Mathlib.Omega.{arith}
use lib.ListN.{length, take, drop, get_or, set, length-set}
use lib.IntN.{ℤ, pos, ◌+ℤ◌}
use lib.Signed.{le_z}
use mir.Syntax.{w32}
use mir.Val.{to_z}
use Rattle.rules.specs.Words.{wrap, sub32, mul32, sign}
use Rattle.rules.specs.Prediction.{error_left, adapted}
use Rattle.words.proofs.Laws.{held32, held16}
use Rattle.lpc.proofs.Steps.{left, moved, adapted_on, adapted_stop, adapted_end}
use Rattle.lpc.proofs.adapt.Goals as goal

-- a turn, in the rule's terms
module _ (quant : ℕ) (mean s : ℤ) (j : ℕ) (error : ℤ) (xs cs whole : List ℤ) (h : j < length xs) (k : j < length cs)
    (i : take j cs ++ adapted quant mean s j error (drop j xs) (drop j cs) ≡ whole)
    (d g t c e : ℤ) (d-is : d ≡ sub32 (get_or xs j (pos 0)) mean) (g-is : g ≡ sign d) (t-is : t ≡ mul32 g s)
    (c-is : c ≡ wrap 16 (get_or cs j (pos 0) +ℤ t)) (e-is : e ≡ error_left quant s j error d t) where
  moves : c ≡ moved mean s xs cs j
  moves = cc

  leaves : e ≡ left quant mean s j error (get_or xs j (pos 0))
  leaves = cc

  stops : le_z e (pos 0) ≡ true → set cs j c ≡ whole
  stops z = rw moves (sym (adapted_stop quant mean s j error xs cs h k (rw leaves at z)) ∙ i)

  goes : le_z e (pos 0) ≡ false → take (j + 1) (set cs j c) ++ adapted quant mean s (j + 1) e (drop (j + 1) xs) (drop (j + 1) (set cs j c)) ≡ whole
  goes z = rw (moves, leaves) (sym (adapted_on quant mean s j error xs cs h k (rw leaves at z)) ∙ i)

-- what the loop starts from, in the contract's terms
starts : (quant : ℕ) (mean e s error m n : ℤ) (xs cs : List ℤ) → m ≡ mean → n ≡ e → s ≡ sign n → error ≡ mul32 s n
    → adapted quant m s 0 error xs cs ≡ adapted quant mean (sign e) 0 (mul32 (sign e) e) xs cs
starts quant mean e s error m n xs cs p q r t = cc

pub returns-then-error-le0 : goal.returns-then-error-le0
returns-then-error-le0 c =
    stops _ _ _ c.loop-j.j (to_z w32 c.loop-j.error-bits) c.args.xs.now c.loop-j.lpc_coefs _ (omega arith) (omega arith) c.loop-j.invariant.1
    _ _ _ _ _
    (held32 c.wrapping_sub_i32-d.result c.wrapping_sub_i32-d.type_inv ∙ (rw (held32 (get_or c.args.xs.now c.loop-j.j (pos 0)) c.wrapping_sub_i32-arg-1.given) at c.wrapping_sub_i32-d.ensures))
    (held32 c.signum-sign.result c.signum-sign.type_inv ∙ c.signum-sign.ensures)
    (held32 c.wrapping_mul_i32-t.result c.wrapping_mul_i32-t.type_inv ∙ c.wrapping_mul_i32-t.ensures)
    (held16 c.add_to_i16-coef.result c.add_to_i16-coef.type_inv ∙ (rw (held16 (get_or c.loop-j.lpc_coefs c.loop-j.j (pos 0)) c.add_to_i16-arg-1.given) at c.add_to_i16-coef.ensures))
    (held32 c.next_error-error.result c.next_error-error.type_inv ∙ c.next_error-error.ensures)
    c.if-error-le0.true
    ∙ starts c.args.lpc_quant c.args.mean c.args.e _ _ _ _ c.args.xs.now c.args.lpc_coefs.now
    (held32 c.args.mean c.ranges.mean.sfits)
    (held32 c.args.e c.ranges.e.sfits)
    (held32 c.signum-error_sign.result c.signum-error_sign.type_inv ∙ c.signum-error_sign.ensures)
    (held32 c.wrapping_mul_i32-error.result c.wrapping_mul_i32-error.type_inv ∙ c.wrapping_mul_i32-error.ensures)

pub loop-j-preserved : goal.loop-j-preserved
loop-j-preserved c = (
  simp length-set (omega arith),
  goes _ _ _ c.loop-j.j (to_z w32 c.loop-j.error-bits) c.args.xs.now c.loop-j.lpc_coefs _ (omega arith) (omega arith) c.loop-j.invariant.1
      _ _ _ _ _
      (held32 c.wrapping_sub_i32-d.result c.wrapping_sub_i32-d.type_inv ∙ (rw (held32 (get_or c.args.xs.now c.loop-j.j (pos 0)) c.wrapping_sub_i32-arg-1.given) at c.wrapping_sub_i32-d.ensures))
      (held32 c.signum-sign.result c.signum-sign.type_inv ∙ c.signum-sign.ensures)
      (held32 c.wrapping_mul_i32-t.result c.wrapping_mul_i32-t.type_inv ∙ c.wrapping_mul_i32-t.ensures)
      (held16 c.add_to_i16-coef.result c.add_to_i16-coef.type_inv ∙ (rw (held16 (get_or c.loop-j.lpc_coefs c.loop-j.j (pos 0)) c.add_to_i16-arg-1.given) at c.add_to_i16-coef.ensures))
      (held32 c.next_error-error.result c.next_error-error.type_inv ∙ c.next_error-error.ensures)
      c.if-error-le0.false,
)

pub returns : goal.returns
returns c =
    sym (adapted_end _ _ _ c.loop-j.j _ c.args.xs.now c.loop-j.lpc_coefs (omega arith) (omega arith))
    ∙ c.loop-j.invariant.1
    ∙ starts c.args.lpc_quant c.args.mean c.args.e _ _ _ _ c.args.xs.now c.args.lpc_coefs.now
    (held32 c.args.mean c.ranges.mean.sfits)
    (held32 c.args.e c.ranges.e.sfits)
    (held32 c.signum-error_sign.result c.signum-error_sign.type_inv ∙ c.signum-error_sign.ensures)
    (held32 c.wrapping_mul_i32-error.result c.wrapping_mul_i32-error.type_inv ∙ c.wrapping_mul_i32-error.ensures)
