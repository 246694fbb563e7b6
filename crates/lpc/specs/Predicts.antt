-- What the functions of this crate ask for, and what prediction and the residuals leave in the buffers that they are lent.
use Rattle.std.specs.Prelude.{ℕ, ◌≤◌, ◌<◌, ◌≡◌, List, [], ◌∷◌, ◌++◌, length, take, ℤ}
use Rattle.rules.specs.Prediction.{predicted}
use Rattle.rules.specs.Writer as writer

-- a sample has 1..32 bits
pub record Width (b : ℕ) : Type 0 where
  pub some : 1 ≤ b
  pub most : b ≤ 32

-- quant is 1..15, and there is a coefficient for each sample of a window
pub record Window (quant : ℕ) (xs cs : List ℤ) : Type 0 where
  pub rounds : 1 ≤ quant
  pub shifts : quant < 16
  pub few : length cs ≤ 32
  pub even : length xs ≡ length cs

-- coefficient j of those
pub record Loss (quant j : ℕ) : Type 0 where
  pub shifts : quant < 16
  pub few : j < 32

-- sample i is in the buffer
pub record Ready (quant i : ℕ) (buf cs : List ℤ) : Type 0 where
  pub rounds : 1 ≤ quant
  pub shifts : quant < 16
  pub few : length cs ≤ 32
  pub within : i < length buf

-- and is not the first
pub record Later (quant i : ℕ) (buf cs : List ℤ) : Type 0 where
  pub ready : Ready quant i buf cs
  pub after : 1 ≤ i

-- what a channel's prediction is set to
pub record Tuned (b quant : ℕ) (cs : List ℤ) : Type 0 where
  pub width : Width b
  pub rounds : 1 ≤ quant
  pub shifts : quant < 16
  pub few : length cs ≤ 32

module _ {A : Type 0} where
  -- the last of a list, or a if there is none
  unfoldable pub last_or : A → List A → A
  last_or a [] = a
  last_or a (x ∷ xs) = last_or x xs

-- the residuals became samples, and the coefficients those after the last of them
pub record Predicts (b quant : ℕ) (cs buf cs' buf' : List ℤ) : Type 0 where
  pub samples : buf' ≡ (predicted b quant [] cs buf).values
  pub coefficients : cs' ≡ last_or cs (predicted b quant [] cs buf).coefs

-- the residuals of n samples stand after them, and the coefficients are those after the last
pub record Leaves (b quant n : ℕ) (cs buf cs' buf' : List ℤ) : Type 0 where
  pub residuals : buf' ≡ take n buf ++ (writer.residuals b quant [] cs (take n buf)).values
  pub coefficients : cs' ≡ last_or cs (writer.residuals b quant [] cs (take n buf)).coefs
