-- The entries of a cache, each a key with its value and its cost, from the least to the most lately used.
use Rattle.std.specs.Prelude.{◌≡◌, ℕ, ◌-◌, ◌<◌, ◌≤◌, Bool, cond, List, [], ◌∷◌, ◌++◌, leb, map, option_map}
use Rattle.std.specs.List.{IsDistinct, sum_by}
use Rattle.std.specs.Option.{option_to_list, option_map_or}
use Rattle.std.specs.Map.{keys_of, values_of, lookup, lookup_entry, remove_entry}
use Rattle.fc_base.specs.Growth.{append_error}
use Rattle.fc_cache.specs.declared.held.Held.{Held}
use Rattle.fc_cache.specs.declared.put_error.PutError.{PutError}
use Rattle.fc_cache.specs.declared.put_error.PutError.TheVariants.{OverBudget, Refused}

-- A cache as contracts see it: its entries, and the greatest sum of their costs.
pub record Cached (K V : Type 0) : Type 0 where
  pub entries : List (K × Held V)
  pub budget : ℕ

module _ {K V : Type 0} where
  -- The sum of the costs.
  abbrev pub total_cost : List (K × Held V) → ℕ
  total_cost es = sum_by (λ h. h.cost) (values_of es)

  -- The longest rest, of those used most lately, whose costs are within a limit.
  abbrev pub rest_within : ℕ → List (K × Held V) → List (K × Held V)
  rest_within limit [] = []
  rest_within limit (e ∷ es) = cond (leb (total_cost (e ∷ es)) limit) (e ∷ es) (rest_within limit es)

  -- The entries before that rest.
  abbrev pub evicted_within : ℕ → List (K × Held V) → List (K × Held V)
  evicted_within limit [] = []
  evicted_within limit (e ∷ es) = cond (leb (total_cost (e ∷ es)) limit) [] (e ∷ evicted_within limit es)

  -- Their keys and values.
  abbrev pub pairs_of : List (K × Held V) → List (K × V)
  pairs_of es = map (λ e. (e.0, e.1.value)) es

  -- The pair was used least lately of the entries, at some cost, and the rest are the others.
  abbrev pub IsOldest : K × V → List (K × Held V) → List (K × Held V) → Type 0
  IsOldest p es rest = (cost : ℕ) × (es ≡ (p.0, record { value = p.1; cost = cost }) ∷ rest)

  module _ (test : K → Bool) where
    -- The entry whose key passes, if there is one, is the most lately used.
    abbrev pub used_last : List (K × Held V) → List (K × Held V)
    used_last es = remove_entry test es ++ option_to_list (lookup_entry test es)

    -- The key that passes, and k where none does.
    abbrev pub key_at : List (K × Held V) → K → K
    key_at es k = option_map_or (λ e. e.0) (lookup_entry test es) k

  module _ (eq : K → K → Bool) where
    -- What leaves a cache for an entry of this key and cost: the old value, with the new key, and then what is evicted.
    abbrev pub handed_out : Cached K V → K → ℕ → List (K × V)
    handed_out c k cost =
        pairs_of (option_to_list (option_map (λ h. (k, h)) (lookup (eq k) c.entries)) ++ evicted_within (c.budget - cost) (remove_entry (eq k) c.entries))

    -- The cache with an entry put in: of the others the longest rest that fits beside it, and then the entry, which is used last. A key
    -- that is there stays.
    abbrev pub with_entry : Cached K V → K → Held V → Cached K V
    with_entry c k h =
        record { entries = rest_within (c.budget - h.cost) (remove_entry (eq k) c.entries) ++ (key_at (eq k) c.entries k, h) ∷ []; budget = c.budget }

    -- What holds of each cache: no two keys are equal, and the costs are within the budget.
    pub record IsCached (c : Cached K V) : Type 0 where
      pub distinct : IsDistinct eq (keys_of c.entries)
      pub within : total_cost c.entries ≤ c.budget

-- Why an entry is not put into a cache of this budget, at this cost, beside n others.
abbrev pub IsRefusal : ℕ → ℕ → ℕ → PutError → Type 0
IsRefusal budget cost n OverBudget = budget < cost
IsRefusal budget cost n (Refused e) = (cost ≤ budget) × (e ≡ append_error n 1)
