-- Where a new pair stands once it is put in, by the path to its gap and by the nodes of the path that are split.
use Rattle.std.specs.Prelude.{◌≡◌, ℕ, zero, suc, ◌+◌, ◌-◌, nat_lt, Bool, true, false, if◌then◌else◌, List, [], ◌∷◌, ◌++◌, length, Some, None}
use Rattle.fc_tree_node.specs.declared.node.Node.{Node}
use Rattle.fc_tree_node.specs.Node.{pairs_of}
use Rattle.fc_tree_node.specs.Path.{before_gap}
use Rattle.fc_tree_node.specs.Place.{IsPlace, place_pair, before_pair, after_pair}
use Rattle.fc_tree_node.specs.Split.{left_length}
use Rattle.fc_tree_insertion.specs.Cascade.{all_full, cascade}
use Rattle.fc_tree_insertion.specs.Insertion.{Split}

-- The step to the child at i, or to the node that was split off on its right.
abbrev pub step_from : ℕ → Bool → ℕ
step_from i right = if right then i + 1 else i

-- Whether what stands at the step t is in the right half of a full node that is split for a pair at i.
abbrev pub goes_right : ℕ → ℕ → Bool
goes_right i t = nat_lt (left_length i) t

-- The step to it in its half; in the right half, steps begin after the pair that was handed out.
abbrev pub half_step : ℕ → ℕ → ℕ
half_step i t = if goes_right i t then t - (left_length i + 1) else t

-- Whether the new pair is in the right half of the path's first node, where so many nodes stay whole and all below are split.
abbrev pub is_right : ℕ → List ℕ → Bool
is_right whole [] = false
is_right (suc whole) (i ∷ path) = false
is_right zero (i ∷ path) = goes_right i (step_from i (is_right zero path))

-- The steps to the new pair from the path's first node, or from the half of it that the pair is in.
abbrev pub steps_to_new_pair : ℕ → List ℕ → List ℕ
steps_to_new_pair whole [] = []
steps_to_new_pair (suc whole) (i ∷ path) = step_from i (is_right whole path) ∷ steps_to_new_pair whole path
steps_to_new_pair zero (i ∷ path) = half_step i (step_from i (is_right zero path)) ∷ steps_to_new_pair zero path

-- The steps to the new pair from the root, by the number of nodes that were made: a new root leads to the old one's halves.
abbrev pub path_after : ℕ → List ℕ → List ℕ
path_after nodes path = if nat_lt (length path) nodes then step_from 0 (is_right 0 path) ∷ steps_to_new_pair 0 path else steps_to_new_pair (length path - nodes) path

module _ {K V Z : Type 0} where
  -- How many steps lead to a new pair: one for each of its path, and one more where a new root stands above the old one.
  abbrev pub steps_after : List ℕ → Node K V Z → ℕ
  steps_after path n = if all_full path n then length path + 1 else length path

  -- The path leads to the pair, with these pairs before it and those after it.
  pub record IsPutAt (path : List ℕ) (n : Node K V Z) (pair : K × V) (front back : List (K × V)) : Type 0 where
    pub place : IsPlace path n
    pub pair_is : place_pair path n ≡ Some pair
    pub before : before_pair path n ≡ front
    pub after : after_pair path n ≡ back

  -- The steps lead to a pair with these pairs before it, in the node or, on its right, in the one that it handed out.
  abbrev pub StandsAt : Bool → List ℕ → Node K V Z → Split K V Z → List (K × V) → Type 0
  StandsAt false path n s front = IsPlace path n × (before_pair path n ≡ front)
  StandsAt true path n None front = ⊥
  StandsAt true path n (Some (up, right)) front = IsPlace path right × (pairs_of n ++ up ∷ before_pair path right ≡ front)

  -- How many nodes of the path an insertion does not split.
  abbrev pub kept_whole : List ℕ → Node K V Z → ℕ
  kept_whole path n = length path - cascade path n

  -- The new pair stands where the path leads it, after the pairs that were before its gap.
  abbrev pub IsLedToNewPair : List ℕ → Node K V Z → Node K V Z → Split K V Z → Type 0
  IsLedToNewPair path old n s = StandsAt (is_right (kept_whole path old) path) (steps_to_new_pair (kept_whole path old) path) n s (before_gap path old)
