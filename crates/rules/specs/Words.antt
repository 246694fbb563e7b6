-- Words as the machine holds them: "wraps at b bits", "sign-extended to b bits", signs, shifts, folded signs and log2.
use Rattle.std.specs.Prelude.{ℕ, zero, suc, ◌+◌, ◌-◌, ◌*◌, ◌/◌, ◌%◌, ◌^◌, Bool, true, false, ltb, eqb, ℤ, pos, negsuc, ◌+ℤ◌, ◌-ℤ◌, ◌*ℤ◌}
use Rattle.std.specs.Int.Count.{count_leading_zeros}
use Rattle.std.specs.Int.Signed.{shr_z}
use Rattle.rules.specs.Answers.{pick}

-- what is left of z after whole m's, from 0 to m - 1
unfoldable pub mod_z : ℕ → ℤ → ℕ
mod_z m (pos n) = n % m
mod_z m (negsuc n) = m - suc (n % m)

-- b bits as a signed number: the upper half are the numbers below 0
unfoldable pub signed : ℕ → ℕ → ℤ
signed b r = pick (ltb (2 * r) (2 ^ b)) (pos r) (negsuc (2 ^ b - suc r))

-- z as b bits hold it: wrapped at b bits, or sign-extended from b bits
unfoldable pub wrap : ℕ → ℤ → ℤ
wrap b z = signed b (mod_z (2 ^ b) z)

-- sums, differences and products that wrap at 32 bits
abbrev pub add32 : ℤ → ℤ → ℤ
add32 x y = wrap 32 (x +ℤ y)

abbrev pub sub32 : ℤ → ℤ → ℤ
sub32 x y = wrap 32 (x -ℤ y)

abbrev pub mul32 : ℤ → ℤ → ℤ
mul32 x y = wrap 32 (x *ℤ y)

-- shifted right arithmetically
abbrev pub shift_right : ℤ → ℕ → ℤ
shift_right x s = shr_z x (2 ^ s)

-- shifted left: bits past 32 are lost
abbrev pub shift_left : ℤ → ℕ → ℤ
shift_left x s = wrap 32 (x *ℤ pos (2 ^ s))

-- -1, 0 or 1
unfoldable pub sign : ℤ → ℤ
sign (pos zero) = pos 0
sign (pos (suc n)) = pos 1
sign (negsuc n) = negsuc 0

abbrev pub is_zero : ℤ → Bool
is_zero (pos zero) = true
is_zero (pos (suc n)) = false
is_zero (negsuc n) = false

-- even v means v/2, odd v means -(v+1)/2
unfoldable pub unfolded : ℕ → ℤ
unfolded v = pick (eqb (v % 2) 0) (pos (v / 2)) (negsuc (v / 2))

-- the v that means z
unfoldable pub folded : ℤ → ℕ
folded (pos n) = n * 2
folded (negsuc n) = n * 2 + 1

-- log2 rounded down, counted with leading zeros
unfoldable pub log2 : ℕ → ℕ
log2 n = 31 - count_leading_zeros 32 n
