-- The reader's last step, unmixing and then the extra bits: what each part asks, and what a sample becomes that takes in its bits.
use Rattle.std.specs.Prelude.{ℕ, ◌+◌, ◌*◌, ◌≤◌, ◌<◌, ◌≡◌, List, length, get_or, take, drop, set, ℤ, pos}
use Rattle.rules.specs.Bits.{num}
use Rattle.rules.specs.Element.{extended}
use Rattle.bitcursor.specs.Cursor.{Cursor}
use Rattle.buffers.specs.Fills.{Roomy}

-- ---- unmixing

-- two channels of n samples lie in scratch
pub record Unmixable (half n mix_bits : ℕ) (scr : List ℤ) : Type 0 where
  pub short : n ≤ half
  pub room : 2 * half ≤ length scr
  pub small : mix_bits < 32

-- mix_res has 8 bits, and a pair that is unmixed shifts by less than a word
pub record UnmixAsked (half n w mix_bits mix_res : ℕ) (scratch : List ℤ) : Type 0 where
  pub roomy : Roomy half n w scratch
  pub byte : mix_res < 256
  pub small : w ≡ 2 → 0 < mix_res → mix_bits ≤ 31

-- ---- extra bits

-- the sample at k lies in scratch, and its extra bits come next
pub record Takes (extra : Cursor) (shift k : ℕ) (scr : List ℤ) : Type 0 where
  pub inside : k < length scr
  pub few : shift ≤ 16
  pub there : extra.at + shift ≤ length extra.bits

-- the sample at k took in its extra bits, and the cursor stands after them
pub record Took (was is : Cursor) (shift k : ℕ) (scr scr' : List ℤ) : Type 0 where
  pub sample : scr' ≡ set scr k (extended shift (get_or scr k (pos 0)) (num (take shift (drop was.at was.bits))))
  pub after : is.at ≡ was.at + shift
  pub same : is.bits ≡ was.bits

-- one channel or two lie in scratch, and all their extra bits come next
pub record Extendable (extra : Cursor) (half n w shift : ℕ) (scratch : List ℤ) : Type 0 where
  pub roomy : Roomy half n w scratch
  pub few : shift ≤ 16
  pub there : extra.at + shift * (n * w) ≤ length extra.bits

-- ---- one after the other

-- both
pub record Finishable (bits : List ℕ) (p half n w shift mix_bits mix_res : ℕ) (scratch : List ℤ) : Type 0 where
  pub roomy : Roomy half n w scratch
  pub byte : mix_res < 256
  pub small : w ≡ 2 → 0 < mix_res → mix_bits ≤ 31
  pub few : shift ≤ 16
  pub there : p + shift * (n * w) ≤ length bits
