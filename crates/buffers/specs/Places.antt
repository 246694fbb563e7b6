-- What storing a channel asks of its caller.
use Rattle.std.specs.Prelude.{ℕ, ◌*◌, ◌≤◌, ◌<◌, List, length, ℤ}

-- channel `first` of so many has places for its samples, and 32 bits hold a sample of this depth
pub record Places {A : Type 0} (depth first channels : ℕ) (from : List ℤ) (out : List A) : Type 0 where
  pub one_of : first < channels
  pub room : length from * channels ≤ length out
  pub depth_from : 1 ≤ depth
  pub depth_to : depth ≤ 32
