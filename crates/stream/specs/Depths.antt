-- The depths that each kind of output takes.
use Rattle.std.specs.Prelude.{ℕ, ◌≤◌, ◌≡◌, refl, Bool, true, false, ◌||◌, eqb}
use Rattle.rules.specs.Stream.{i16_output, i32_output}
use native.Mathlib.Omega.{arith}
use borrow.Author.Tests.{eqb-true}

pub depth_i16 : (depth : ℕ) → i16_output.takes depth ≡ true → (16 ≤ depth) × (depth ≤ 32)
depth_i16 depth e = let d = eqb-true depth 16 e in (omega arith, omega arith)

pub depth_i32 : (depth : ℕ) → i32_output.takes depth ≡ true → (16 ≤ depth) × (depth ≤ 32)
depth_i32 depth e = by (eqb depth 16) (eqb depth 20) (eqb depth 24) (eqb depth 32) refl refl refl refl e
  where
    by : (a b c d : Bool) → eqb depth 16 ≡ a → eqb depth 20 ≡ b → eqb depth 24 ≡ c → eqb depth 32 ≡ d → a || (b || (c || d)) ≡ true → (16 ≤ depth) × (depth ≤ 32)
    by true b c d h i j k e = let f = eqb-true depth 16 h in (omega arith, omega arith)
    by false true c d h i j k e = let f = eqb-true depth 20 i in (omega arith, omega arith)
    by false false true d h i j k e = let f = eqb-true depth 24 j in (omega arith, omega arith)
    by false false false true h i j k e = let f = eqb-true depth 32 k in (omega arith, omega arith)
    by false false false false h i j k e = let z : ◌≡◌ {A = ℕ} 0 1 = cc in absurd (omega arith)
