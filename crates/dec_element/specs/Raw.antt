-- Uncompressed samples: what reading them asks, and what a sample and a row leave in scratch.
use Rattle.std.specs.Prelude.{ℕ, ◌+◌, ◌*◌, ◌^◌, ◌≤◌, ◌<◌, ◌≡◌, List, [], ◌∷◌, map, length, drop, set, ℤ, Result}
use Rattle.rules.specs.declared.Refusal.{Refusal}
use Rattle.rules.specs.Answers.{answered, times}
use Rattle.rules.specs.Bits.{field}
use Rattle.rules.specs.Words.{signed}
use Rattle.bitcursor.specs.Cursor.{Cursor}
use Rattle.bitcursor.specs.Reads.{Reads}
use Rattle.buffers.specs.Fills.{Roomy}

-- v has depth bits
pub record Sample (depth v : ℕ) : Type 0 where
  pub depth_ge : 1 ≤ depth
  pub depth_le : depth ≤ 32
  pub value_lt : v < 2 ^ depth

-- place k of scratch takes a sample of depth bits
pub record Storable (depth k : ℕ) (scratch : List ℤ) : Type 0 where
  pub depth_ge : 1 ≤ depth
  pub depth_le : depth ≤ 32
  pub inside : k < length scratch

-- the sample came to place k, or why not; no later place changed
pub record Stores (depth k : ℕ) (was is : Cursor) (scratch scratch' : List ℤ) (r : Result (Unit {0}) Refusal) : Type 0 where
  pub reads : Reads (λ _. scratch') (λ packet p. answered (λ v. set scratch k (signed depth v)) (field packet depth p)) was is r
  pub same : length scratch' ≡ length scratch
  pub rest : drop (k + 1) scratch' ≡ drop (k + 1) scratch

-- n samples of depth bits of each of w channels have room in scratch
pub record Rawable (half n w depth : ℕ) (scratch : List ℤ) : Type 0 where
  pub roomy : Roomy half n w scratch
  pub depth_ge : 1 ≤ depth
  pub depth_le : depth ≤ 32

-- a row's samples, `half` places apart
unfoldable pub row_laid : ℕ → ℕ → List ℤ → List ℤ → List ℤ
row_laid half k [] scratch = scratch
row_laid half k (x ∷ row) scratch = row_laid half (half + k) row (set scratch k x)

-- row i came into scratch, or why not
pub record Rows (depth w half i : ℕ) (was is : Cursor) (scratch scratch' : List ℤ) (r : Result (Unit {0}) Refusal) : Type 0 where
  pub reads : Reads (λ _. scratch') (λ packet p. answered (λ raw. row_laid half i (map (signed depth) raw) scratch) (times w (field packet depth) p)) was is r
  pub same : length scratch' ≡ length scratch
  pub rest : drop (2 * half) scratch' ≡ drop (2 * half) scratch
