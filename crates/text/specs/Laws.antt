-- A number of the settings is the number that its digits say.
use Rattle.std.specs.Prelude.{ℕ, zero, suc, ◌≤◌, ◌≡◌, refl, true, false, [], ◌∷◌, pos, negsuc, ◌-ℤ◌}
use Rattle.std.proofs.Common.{arith}
use Rattle.rules.specs.Words.{mod_z, signed, wrap}
use Rattle.laws.specs.Words.{mag_sub, wrap_id}
use Rattle.text.specs.Text.{most_of, turn_of, signed_by, value_of, whole, wrong, onward, read_on, numbers_of}

-- a number that was let grow fits 16 bits, so that nothing wraps
pub signed_above : (size : ℕ) → size ≤ most_of false → signed_by false size ≡ pos size
signed_above size h = wrap_id 16 (pos size) (omega arith) (omega arith)

pub signed_below : (size : ℕ) → size ≤ most_of true → signed_by true size ≡ pos 0 -ℤ pos size
signed_below zero h = wrap_id 16 (pos 0) (omega arith) (omega arith)
signed_below (suc n) h = wrap_id 16 (pos 0 -ℤ pos (suc n)) (omega arith) (omega (arith, mag_sub 0 (suc n)))

-- "12 -3#x" and a line, then "-32768"
example : numbers_of (49 ∷ 50 ∷ 32 ∷ 45 ∷ 51 ∷ 35 ∷ 120 ∷ 10 ∷ 45 ∷ 51 ∷ 50 ∷ 55 ∷ 54 ∷ 56 ∷ []) ≡ whole (pos 12 ∷ negsuc 2 ∷ negsuc 32767 ∷ [])
unfolding read_on onward turn_of value_of wrap signed mod_z
example = refl

-- "7 32768" is wrong at its last digit
past_16_bits : numbers_of (55 ∷ 32 ∷ 51 ∷ 50 ∷ 55 ∷ 54 ∷ 56 ∷ []) ≡ wrong 6 (pos 7 ∷ [])
unfolding read_on onward turn_of value_of wrap signed mod_z
past_16_bits = refl
