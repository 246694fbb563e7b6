-- What the parts of the reader need of an accepted stream.
use Rattle.std.specs.Prelude.{◌≤◌}
use Rattle.rules.specs.declared.StreamInfo.{StreamInfo}

pub record Legal (s : StreamInfo) : Type 0 where
  pub frame_le : s.frame_length ≤ 4096
  pub depth_ge : 16 ≤ s.bit_depth
  pub depth_le : s.bit_depth ≤ 32
  pub kb_ge : 1 ≤ s.kb
  pub kb_le : s.kb ≤ 31
