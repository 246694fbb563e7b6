-- Channels that come into scratch: the room that they need, and what they leave there.
use Rattle.std.specs.Prelude.{ℕ, ◌*◌, ◌≤◌, ◌≡◌, List, length, drop, ℤ, Result, OnOk}
use Rattle.rules.specs.declared.Refusal.{Refusal}
use Rattle.rules.specs.Answers.{Read}
use Rattle.bitcursor.specs.Cursor.{Cursor}
use Rattle.bitcursor.specs.Reads.{Reads}
use Rattle.buffers.specs.Halves.{parts, with_parts}

-- one channel or two of n samples have room in scratch
pub record Roomy (half n w : ℕ) (scratch : List ℤ) : Type 0 where
  pub half_le : half ≤ 4096
  pub short : n ≤ half
  pub some : 1 ≤ w
  pub two : w ≤ 2
  pub room : 2 * half ≤ length scratch

-- n samples of each of w channels came into scratch, where only their own places changed, or why not; a refusal says nothing of the first 2 x half
pub record Fills (half n w : ℕ) (rule : List ℕ → Read (List (List ℤ))) (was is : Cursor) (scratch scratch' : List ℤ) (r : Result (Unit {0}) Refusal) : Type 0 where
  pub reads : Reads (λ _. parts half n w scratch') rule was is r
  pub laid : OnOk r (scratch' ≡ with_parts half (parts half n w scratch') scratch)
  pub rest : drop (2 * half) scratch' ≡ drop (2 * half) scratch
