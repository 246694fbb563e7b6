-- The writer's mix: what it asks of its caller, and what it makes of a pair.
use Rattle.std.specs.Prelude.{ℕ, zero, suc, ◌*◌, ◌≤◌, ◌<◌, ◌≡◌, List, length, ℤ}
use Rattle.rules.specs.Words.{sub32}
use Rattle.rules.specs.Mix.{mid_of}

-- channel `which` of one or two, of n samples each
pub record Mixable (channels which mix_bits n : ℕ) (passage : List ℤ) : Type 0 where
  pub some : 1 ≤ channels
  pub two : channels ≤ 2
  pub there : which < channels
  pub small : mix_bits < 32
  pub rows : length passage ≡ n * channels

-- u goes to channel 0, v to channel 1
unfoldable pub mixed_sample : ℕ → ℤ → ℕ → ℤ → ℤ → ℤ
mixed_sample mix_bits mix_res zero l r = mid_of mix_bits mix_res l r
mixed_sample mix_bits mix_res (suc which) l r = sub32 l r
