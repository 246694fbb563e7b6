-- The plan: its promise permits one answer.
use Prim.Native.Nat.{ℕ, ◌-◌, ◌^◌}
use mathlib.Core.Path.{◌≡◌, refl, sym, ap, ap₂, ◌∙◌}
use mathlib.Core.List.{List, [], ◌∷◌, ◌++◌}
use native.Mathlib.Omega.{arith}
use lib.ListN.{length, replicate, take-append-drop}
use lib.IntN.{pos}
use Rattle.std.specs.Prelude.{Result, Option, None, Some, IfSome, IfOk, IsSomeAnd}
use Rattle.rules.specs.declared.Refusal.{Refusal}
use Rattle.rules.specs.Answers.{Read}
use Rattle.rules.specs.Words.{mod_z}
use Rattle.rules.specs.Element as rule
use Rattle.laws.specs.Words.{mod_z-signed}
use Rattle.bitcursor.specs.Cursor.{Cursor}
use Rattle.bitcursor.specs.Reads.{Reads}
use Rattle.dec_header.specs.declared.plan.Parameters.{Parameters}
use Rattle.dec_header.specs.declared.plan.Plan.{Plan}
use Rattle.dec_header.specs.Plan.{params_of, Settled, OneOrTwo, channels_of, plan_of, AllowedChannel, AllowedPlan}
use Rattle.bitcursor.proofs.Laws.{reads_same}
pub use Rattle.dec_header.proofs.PlanSteps.{settled_order}

-- the code's parameters and plan, of those of the rules
params_from : rule.Params → Parameters
params_from c = record {
  mode = c.mode;
  quant = c.quant;
  factor = c.factor;
  order = length c.coefs;
  coefs = c.coefs ++ replicate (32 - length c.coefs) (pos 0);
}

abbrev plan_with : ℕ → ℕ → Parameters → Option Parameters → Plan
plan_with bits res a b = record { mix_bits = bits; mix_res = res; first = a; second = b }

second_from : List rule.Params → Option Parameters
second_from [] = None
second_from (c ∷ []) = None
second_from (c ∷ d ∷ cs) = Some (params_from d)

settled_from : {c : Parameters} → Settled c → params_from (params_of c) ≡ c
unfolding params_from
settled_from {c} f = rw (settled_order f, ← f.rest, take-append-drop)

second-from : (first : Parameters) (second : Option Parameters) → IfSome second Settled → second_from (channels_of first second) ≡ second
unfolding second_from
second-from first None f = refl
second-from first (Some c) f = ap Some (settled_from f)

first-same : (a b : Parameters) (c d : Option Parameters) → channels_of a c ≡ channels_of b d → params_of a ≡ params_of b
first-same a b None None e = cc
first-same a b (Some c) (Some d) e = cc
first-same a b None (Some d) e = cc
first-same a b (Some c) None e = cc

-- an accepted second channel is settled too
second_settled : {channels : ℕ} (second : Option Parameters) → OneOrTwo channels → (channels ≡ 1 → second ≡ None) → (channels ≡ 2 → IsSomeAnd second AllowedChannel) → IfSome second Settled
second_settled None n k l = tt
second_settled (Some c) n k l = (l (grind (arith, n.from_one, n.to_two, k))).settled

module _ {channels : ℕ} (n : OneOrTwo channels) where
  plan-apart : (p q : Plan) → AllowedPlan channels p → AllowedPlan channels q → plan_of p ≡ plan_of q → p ≡ q
  plan-apart p q i j e =
      let a : p.mix_bits ≡ q.mix_bits = ap (λ (r : rule.Plan). r.mix_bits) e in
      let b : p.mix_res ≡ q.mix_res = sym (mod_z-signed 8 p.mix_res i.mix_res_lt) ∙ ap (λ (r : rule.Plan). mod_z (2 ^ 8) r.mix_res) e ∙ mod_z-signed 8 q.mix_res j.mix_res_lt in
      let l : channels_of p.first p.second ≡ channels_of q.first q.second = ap (λ (r : rule.Plan). r.params) e in
      let c : p.first ≡ q.first = sym (settled_from i.first.settled) ∙ ap params_from (first-same p.first q.first p.second q.second l) ∙ settled_from j.first.settled in
      let d : p.second ≡ q.second =
      sym (second-from p.first p.second (second_settled p.second n i.alone i.pair)) ∙ ap second_from l ∙ second-from q.first q.second (second_settled q.second n j.alone j.pair) in
      ap₂ (λ (m k : ℕ). plan_with m k p.first p.second) a b ∙ ap₂ (λ (x : Parameters) (y : Option Parameters). plan_with q.mix_bits q.mix_res x y) c d

  pub plan-same : {asked : List ℕ → Read rule.Plan} {was is is' : Cursor} (r q : Result Plan Refusal) → Reads plan_of asked was is r → Reads plan_of asked was is' q
      → IfOk r (AllowedPlan channels) → IfOk q (AllowedPlan channels) → (r ≡ q) × (is.at ≡ is'.at)
  plan-same r q s t i j = reads_same r q (λ v w k l. plan-apart v w (rw k at i) (rw l at j)) s t
