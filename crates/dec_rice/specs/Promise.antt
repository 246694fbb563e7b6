-- What the crate's public functions require, and what `rice_decompress` promises.
use Rattle.std.specs.Prelude.{◌≡◌, ℕ, ◌<◌, ◌≤◌, List, length, replicate, ℤ, pos, Result}
use Rattle.rules.specs.declared.Refusal.{Refusal}
use Rattle.rules.specs.Answers.{Ans, got, bad, answered, Read}
use Rattle.rules.specs.Rice.{RiceData}
use Rattle.bitcursor.specs.Cursor.{Cursor}
use Rattle.bitcursor.specs.Reads.{Reads}
use Rattle.dec_rice.specs.declared.Coding.{Coding}

-- a symbol of k bits and m whose value fits a word, or of b raw bits
pub record Sizes (k m b : ℕ) : Type 0 where
  pub k_pos : 1 ≤ k
  pub k_le : k ≤ 16
  pub m_lt : m < 65536
  pub b_le : b ≤ 32

pub record Coded (c : Coding) : Type 0 where
  pub kb_pos : 1 ≤ c.kb
  pub kb_le : c.kb ≤ 31
  pub factor_le : c.factor ≤ 127
  pub bits_le : c.bits ≤ 32

-- what a buffer of n places holds after the answer a: its residuals, or zeros where it is refused
unfoldable pub filled : ℕ → Ans RiceData → List ℤ
filled n (got d p) = d.residuals
filled n (bad x p) = replicate n (pos 0)

-- the place that the answer a reaches
abbrev pub place_after : Ans RiceData → Ans (Unit {0})
place_after a = answered (λ d. tt) a

pub record Decompressed (rule : List ℕ → Read RiceData) (was is : Cursor) (buf buf' : List ℤ) (r : Result (Unit {0}) Refusal) : Type 0 where
  pub reads : Reads (λ _. tt) (λ packet p. place_after (rule packet p)) was is r
  pub buffer : buf' ≡ filled (length buf) (rule was.bits was.at)
