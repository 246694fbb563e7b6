-- Refusal 2, whatever the output's width.
use Rattle.std.specs.Prelude.{◌≡◌, Bool, ℤ}
use Rattle.rules.specs.declared.StreamInfo.{StreamInfo}
use Rattle.rules.specs.Stream.{Width, accepted}

-- the stream is accepted, for every kind of output of whole numbers that has this to say to its depth
pub record Accepts (s : StreamInfo) (taken r : Bool) : Type 0 where
  pub says : (w : Width ℤ) → taken ≡ w.takes s.bit_depth → r ≡ accepted w s
