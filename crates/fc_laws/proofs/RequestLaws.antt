-- The laws of requests for memory: how many a call makes that makes few, and a load.
-- A caller names one on a function, as `#[tactic(auto, using(fc_laws::proofs::Laws::requests_within))]`, or cites it in an answer.
use Rattle.std.proofs.Common.{ℕ, zero, suc, ◌+◌, ◌*◌, ◌/◌, ◌^◌, ◌<◌, ◌≤◌, inl, inr, arith, lit<}
use Rattle.std.proofs.lemmas.Bool.{cases_lt}
use Rattle.std.proofs.Math.Nat.{pow-le-pow_right}
use Rattle.fc_base.specs.Sizes.{least_children, most_children, most_levels}
use Rattle.fc_base.specs.declared.asked.Asked.{Asked}
use Rattle.fc_tree_build.specs.Spares.{inner_above}
use Rattle.fc_map.specs.Requests.{HasFewRequests}
use Rattle.fc_map.specs.Loads.{load_requests}

-- A call that makes few requests, for n pairs, makes at most two a level and one more, where n pairs are too few for more levels.
pub requests_within : (levels n : ℕ) (old new : Asked) → HasFewRequests n old new → n + 1 < 2 * least_children ^ levels
    → new.requests ≤ old.requests + (2 * levels + 1)
requests_within levels n old new few fits = elim (cases_lt few.0 levels) [
  | inl lower ↦ omega (arith, lower, few.2)
  | inr higher ↦ absurd (let big : least_children ^ levels ≤ least_children ^ few.0 = pow-le-pow_right (lit< tt) higher in omega (arith, big, few.1, fits))
]

-- There are no more inner nodes than subtrees below them.
inner_few : (d n : ℕ) → inner_above d n ≤ n
inner_few zero n = omega arith
inner_few (suc d) zero = omega arith
inner_few (suc d) (suc n) = let above = inner_few d (suc n / most_children) in omega (arith, above)

-- A load of n pairs that ascend makes at most four requests for each full leaf with the pair after it, and one more.
pub load_within : (n : ℕ) → load_requests n ≤ 4 * (n / most_children) + 1
load_within zero = let inner = inner_few most_levels (0 / most_children) in omega (arith, inner)
load_within (suc n) = let inner = inner_few most_levels (suc n / most_children) in omega (arith, inner)
