-- What decoding the channels of a compressed element asks.
use Rattle.std.specs.Prelude.{ℕ, ◌≤◌, List, length, ℤ}
use Rattle.rules.specs.declared.StreamInfo.{StreamInfo}
use Rattle.buffers.specs.Fills.{Roomy}
use Rattle.dec_header.specs.declared.plan.Parameters.{Parameters}
use Rattle.dec_header.specs.declared.plan.Plan.{Plan}
use Rattle.dec_header.specs.Plan.{plan_of, AllowedChannel, AllowedPlan}

-- one channel or two
abbrev pub width_of : Plan → ℕ
width_of plan = length (plan_of plan).params

-- a sample of 1..32 bits, and parameters that cause 11 does not refuse
pub record Predictable (bps : ℕ) (c : Parameters) : Type 0 where
  pub bps_ge : 1 ≤ bps
  pub bps_le : bps ≤ 32
  pub allowed : AllowedChannel c

pub record Channelled (s : StreamInfo) (bps : ℕ) (c : Parameters) : Type 0 where
  pub kb_ge : 1 ≤ s.kb
  pub kb_le : s.kb ≤ 31
  pub predictable : Predictable bps c

pub record Planned (s : StreamInfo) (bps : ℕ) (plan : Plan) (n : ℕ) (scratch : List ℤ) : Type 0 where
  pub kb_ge : 1 ≤ s.kb
  pub kb_le : s.kb ≤ 31
  pub bps_ge : 1 ≤ bps
  pub bps_le : bps ≤ 32
  pub allowed : AllowedPlan (width_of plan) plan
  pub roomy : Roomy s.frame_length n (width_of plan) scratch
