-- Laws of answers of which something was made.
use Rattle.std.specs.Prelude.{ℕ}
use Rattle.std.proofs.Math.Path.{◌≡◌, refl}
use Rattle.std.proofs.Common.{arith}
use Rattle.rules.specs.declared.Refusal.{Refusal}
use Rattle.rules.specs.Answers.{Ans, got, bad, answered}

module _ {A B : Type 0} (f : A → B) where
  pub answered_got : (a : Ans A) {v : B} {i : ℕ} → answered f a ≡ got v i → (d : A) × (a ≡ got d i) × (v ≡ f d)
  unfolding answered
  answered_got (got d p) e = (d, cc, cc)
  answered_got (bad x p) e = let z : ◌≡◌ {A = ℕ} 0 1 = cc in absurd (omega arith)

  pub answered_bad : (a : Ans A) {x : Refusal} {i : ℕ} → answered f a ≡ bad x i → a ≡ bad x i
  unfolding answered
  answered_bad (got d p) e = let z : ◌≡◌ {A = ℕ} 0 1 = cc in absurd (omega arith)
  answered_bad (bad y p) e = cc

  pub answered-answered : {C : Type 0} (g : B → C) (a : Ans A) → answered g (answered f a) ≡ answered (λ x. g (f x)) a
  unfolding answered
  answered-answered g (got a p) = refl
  answered-answered g (bad x p) = refl
