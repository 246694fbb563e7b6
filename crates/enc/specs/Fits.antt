-- What the test of refusal 20 promises, and what the packet's limit asks.
use Rattle.std.specs.Prelude.{ℕ, ◌≤◌, ◌≡◌, Bool, List, length, ℤ}
use Rattle.rules.specs.declared.StreamInfo.{StreamInfo}
use Rattle.rules.specs.declared.PackingSettings.{PackingSettings}
use Rattle.rules.specs.Writer.{passage_fits}

-- whatever the settings, a passage of this length is taken or not
pub record Fits (s : StreamInfo) (n : ℕ) (r : Bool) : Type 0 where
  pub says : (t : PackingSettings) (passage : List ℤ) → length passage ≡ n → r ≡ passage_fits s t passage

-- one channel or two, of at most a frame
pub record Limited (s : StreamInfo) (n : ℕ) : Type 0 where
  pub some : 1 ≤ s.num_channels
  pub two : s.num_channels ≤ 2
  pub short : n ≤ 4096
