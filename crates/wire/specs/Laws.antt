-- Laws of the raw form: what was written is read back.
use Rattle.std.specs.Prelude.{ℕ, ◌+◌, ◌*◌, ◌/◌, ◌%◌, ◌^◌, ◌<◌, ◌≡◌, refl, List, [], ◌∷◌, ℤ}
use Rattle.std.proofs.Common.{arith, div-add-mod', mod-eq_of_lt}
use Rattle.std.proofs.Math.Nat.{div-div-eq-div-mul}
use Rattle.rules.specs.Cookie.{big_endian}
use Rattle.rules.specs.Words.{mod_z}
use Rattle.laws.specs.Words.{AllIn, none, one, signed-mod_z}
use Rattle.wire.specs.Raw.{length_of, front_of, samples_of, bytes_of}

by_bytes : (n q₁ q₂ q₃ r₀ r₁ r₂ : ℕ) → q₁ * 256 + r₀ ≡ n → q₂ * 256 + r₁ ≡ q₁ → q₃ * 256 + r₂ ≡ q₂
    → q₃ * 16777216 + (r₂ * 65536 + (r₁ * 256 + (r₀ * 1 + 0))) ≡ n
by_bytes n q₁ q₂ q₃ r₀ r₁ r₂ a b c = omega arith

pub length_front : (n : ℕ) → n < 2 ^ 32 → length_of (front_of n) ≡ n
unfolding big_endian
length_front n h =
    let high : n / 0x1000000 < 256 = omega arith in
    rw (mod-eq_of_lt high)
    (by_bytes n (n / 0x100) (n / 0x10000) (n / 0x1000000) (n % 256) (n / 0x100 % 256) (n / 0x10000 % 256)
    (div-add-mod' n 256)
    (rw (div-div-eq-div-mul n 0x100 256) at (div-add-mod' (n / 0x100) 256))
    (rw (div-div-eq-div-mul n 0x10000 256) at (div-add-mod' (n / 0x10000) 256)))

pub samples_bytes : (xs : List ℤ) → AllIn 16 xs → samples_of (bytes_of xs) ≡ xs
unfolding samples_of bytes_of
samples_bytes [] none = refl
samples_bytes (x ∷ xs) (one h rest) =
    let w = mod_z (2 ^ 16) x in
    let e : w / 256 * 256 + w % 256 ≡ w = div-add-mod' w 256 in
    rw (e, signed-mod_z 16 x (omega arith) h, samples_bytes xs rest)
