-- What the writer promises: answer, bytes and scratch, to the last place, refused calls included.
use Rattle.std.specs.Prelude.{◌≡◌, List, ℕ, length, ℤ, Result}
use Rattle.rules.specs.declared.StreamInfo.{StreamInfo}
use Rattle.rules.specs.declared.PackingSettings.{PackingSettings}
use Rattle.rules.specs.declared.Refusal.{Refusal}
use Rattle.rules.specs.Writer.{packed, bytes_after, pack_scratch_after}

pub record Promise (s : StreamInfo) (t : PackingSettings) (passage : List ℤ) (bytes bytes' : List ℕ) (scratch scratch' : List ℤ) (r : Result ℕ Refusal) : Type 0 where
  pub answer : r ≡ packed s t passage (length bytes) (length scratch)
  pub output : bytes' ≡ bytes_after s t passage bytes (length scratch)
  pub room : scratch' ≡ pack_scratch_after s t passage scratch
