-- What the rules answer: a value and the place after it, or a refusal and its place. Reading goes on from place to place.
use Rattle.std.specs.Prelude.{ℕ, zero, suc, Bool, true, false, List, [], ◌∷◌}
use Rattle.rules.specs.declared.Refusal.{Refusal}

pub data Ans (A : Type 0) : Type 0 where
  got : A → ℕ → Ans A
  bad : Refusal → ℕ → Ans A

-- what is read from a place on
abbrev pub Read : Type 0 → Type 0
Read A = ℕ → Ans A

module _ {A : Type 0} where
  -- a if the test holds, else b
  abbrev pub pick : Bool → A → A → A
  pick true a b = a
  pick false a b = b

  abbrev pub give : A → Read A
  give a p = got a p

  abbrev pub refuse : Refusal → Read A
  refuse x p = bad x p

module _ {A B : Type 0} where
  -- goes on with the value and the place after it; a refusal ends the packet there
  unfoldable pub bind : Ans A → (A → ℕ → Ans B) → Ans B
  bind (got a p) next = next a p
  bind (bad x p) next = bad x p

  -- f of the value
  unfoldable pub answered : (A → B) → Ans A → Ans B
  answered f (got a p) = got (f a) p
  answered f (bad x p) = bad x p

infixl 10 ◌>>=◌ ◌>>◌
module _ {A B : Type 0} where
  abbrev pub ◌>>=◌ : Read A → (A → Read B) → Read B
  ◌>>=◌ first next p = bind (first p) next

  abbrev pub ◌>>◌ : Read A → Read B → Read B
  ◌>>◌ first next p = bind (first p) (λ a q. next q)

module _ {A : Type 0} where
  -- n times the same
  unfoldable pub times : ℕ → Read A → Read (List A)
  times zero one = give []
  times (suc n) one = do
    x ← one
    xs ← times n one
    give (x ∷ xs)

module _ {A B : Type 0} where
  -- for each of a list
  unfoldable pub each : List A → (A → Read B) → Read (List B)
  each [] one = give []
  each (a ∷ rest) one = do
    x ← one a
    xs ← each rest one
    give (x ∷ xs)

-- judged here: the test holds, or cause x
abbrev pub check : Bool → Refusal → Read (Unit {0})
check test x p = pick test (got tt p) (bad x p)
