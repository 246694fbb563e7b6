-- What a compressed element's parameters and plan are to the rules, and what those that were read have.
use Rattle.std.specs.Prelude.{ℕ, ◌-◌, ◌≤◌, ◌<◌, ◌≡◌, Bool, ◌&&◌, List, [], ◌∷◌, map, reverse, take, drop, replicate, ℤ, pos, Option, None, Some, IsSomeAnd}
use Rattle.rules.specs.Words.{signed}
use Rattle.rules.specs.Element as rule
use Rattle.dec_header.specs.declared.plan.Parameters.{Parameters}
use Rattle.dec_header.specs.declared.plan.Plan.{Plan}

-- ---- a channel's parameters

-- coefficients as the packet has them, put in the order of their use
abbrev pub oldest_first : List ℕ → List ℤ
oldest_first newestFirst = reverse (map (signed 16) newestFirst)

abbrev pub params_of : Parameters → rule.Params
params_of c = record { mode = c.mode; quant = c.quant; factor = c.factor; coefs = take c.order c.coefs }

-- coefficients past the order are zero
abbrev pub ZeroPast : ℕ → List ℤ → Type 0
ZeroPast order coefs = drop order coefs ≡ replicate (32 - order) (pos 0)

-- the fields are as wide as they were read, and no coefficient stands past the order
pub record Settled (c : Parameters) : Type 0 where
  pub quant_lt : c.quant < 16
  pub order_lt : c.order < 32
  pub rest : ZeroPast c.order c.coefs

-- ---- the plan

pub record OneOrTwo (channels : ℕ) : Type 0 where
  pub from_one : 1 ≤ channels
  pub to_two : channels ≤ 2

-- the parameters of one channel or two
abbrev pub channels_of : Parameters → Option Parameters → List rule.Params
channels_of first None = params_of first ∷ []
channels_of first (Some second) = params_of first ∷ params_of second ∷ []

abbrev pub plan_of : Plan → rule.Plan
plan_of p = record { mix_bits = p.mix_bits; mix_res = signed 8 p.mix_res; params = channels_of p.first p.second }

-- cause 11 does not hold
abbrev pub plan_ok : ℕ → rule.Plan → Bool
plan_ok channels p = rule.all_of rule.params_ok p.params && rule.mix_ok channels p.mix_bits p.mix_res

-- what an accepted channel has
pub record AllowedChannel (c : Parameters) : Type 0 where
  pub quant_pos : 0 < c.quant
  pub order_le : c.order ≤ 30
  pub factor_le : c.factor ≤ 127
  pub settled : Settled c

-- what an accepted plan has: a second channel where there are two, and none where there is one
pub record AllowedPlan (channels : ℕ) (p : Plan) : Type 0 where
  pub mix_res_lt : p.mix_res < 256
  pub mix_bits_le : channels ≡ 2 → 0 < p.mix_res → p.mix_bits ≤ 31
  pub first : AllowedChannel p.first
  pub alone : channels ≡ 1 → p.second ≡ None
  pub pair : channels ≡ 2 → IsSomeAnd p.second AllowedChannel
