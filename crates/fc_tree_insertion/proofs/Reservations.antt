-- How many nodes an insertion takes at the most.
use Rattle.std.proofs.Common.{◌≡◌, ℕ, zero, suc, ◌+◌, ◌*◌, ◌-◌, ◌/◌, ◌^◌, ◌<◌, ◌≤◌, true, false, Some, List, length, ◌⊎◌, inl, inr, arith, lit<, pow-suc}
use Rattle.std.proofs.lemmas.Bool.{cases_lt}
use Rattle.std.proofs.Math.Nat.{pow-le-pow_right}
use Rattle.fc_base.specs.Sizes.{least_children}
use Rattle.fc_tree_node.specs.declared.node.Node.{Node}
use Rattle.fc_tree_node.specs.Depth.{IsDeep}
use Rattle.fc_tree_node.specs.Node.{pairs_of}
use Rattle.fc_tree_node.specs.Tree.{IsSoundMap}
use Rattle.fc_tree_node.proofs.DepthFacts.{deep_root, deep_full}
use Rattle.fc_tree_insertion.specs.Cascade.{all_full, nodes_needed}
use Rattle.fc_tree_insertion.specs.Reservation.{IsOverDepth, IsFewestOver}
use Rattle.fc_tree_insertion.proofs.Cascades.{by_fullness, cascade_part, cascade_whole, first_full, needed_whole, needed_part}

-- A tree of fewer pairs has fewer levels below its root.
below_levels : (h levels n pairs : ℕ) → IsDeep h n → n < pairs → IsOverDepth levels pairs → h < levels
below_levels h levels n pairs deep fewer over = within (cases_lt h levels)
  where
    within : (h < levels) ⊎ (levels ≤ h) → h < levels
    within (inl lt) = lt
    within (inr le) = let big : least_children ^ levels ≤ least_children ^ h = pow-le-pow_right (lit< tt) le in absurd (omega arith)

-- No number of levels is the fewest that is greater than another that is enough.
no_more : (l m n : ℕ) → IsFewestOver l n → IsFewestOver m n → m ≤ l
no_more l m n a b = within (cases_lt l m)
  where
    within : (l < m) ⊎ (m ≤ l) → m ≤ l
    within (inl lt) =
        let big : least_children ^ l ≤ least_children ^ (m - 1) = pow-le-pow_right (lit< tt) (omega arith) in
        let least = b.2 (omega arith) in
        absurd (omega arith)
    within (inr le) = le

-- One number of levels is the fewest.
pub fewest_is : (l m n : ℕ) → IsFewestOver l n → IsFewestOver m n → l ≡ m
fewest_is l m n a b = let above = no_more l m n a b in let below = no_more m l n b a in omega arith

module _ {K V Z : Type 0} (root : Node K V Z) (path : List ℕ) (sound : IsSoundMap (Some root)) (steps : length path ≡ sound.0 + 1) where
  module _ (levels pairs : ℕ) (fewer : length (pairs_of root) < pairs) (over : IsOverDepth levels pairs) where
    split_whole : all_full path root ≡ true → nodes_needed path root ≤ levels
    split_whole f =
        let whole = cascade_whole path root f in
        let e = needed_whole path root (omega arith) in
        let deep = deep_full sound.0 root (first_full path root (omega arith) f) sound.2.1 in
        let lt = below_levels (suc sound.0) levels _ pairs deep fewer over in
        omega arith

    split_part : all_full path root ≡ false → nodes_needed path root ≤ levels
    split_part f =
        let part = cascade_part path root f in
        let e = needed_part path root part in
        let lt = below_levels sound.0 levels _ pairs (deep_root sound.0 root sound.2) fewer over in
        omega arith

    -- An insertion takes at most a node for each of these levels: it makes a new root only above a full one, and a full root is deep.
    pub needed_most : nodes_needed path root ≤ levels
    needed_most = by_fullness path root (nodes_needed path root ≤ levels) split_whole split_part

-- One place more is as many nodes more.
a_place : (places levels : ℕ) → 0 < places → places * levels ≡ (places - 1) * levels + levels
a_place zero levels some = absurd (omega arith)
a_place (suc places) levels some = let e : suc places - 1 ≡ places = omega arith in rw e (omega arith)

-- Where there is a place, the nodes of one insertion are there.
pub place_enough : (places levels pool : ℕ) → 0 < places → places * levels ≤ pool → levels ≤ pool
place_enough places levels pool some enough = let e = a_place places levels some in omega arith

-- What is left is enough for the places that are left.
pub place_used : (places levels pool used left : ℕ) → 0 < places → places * levels ≤ pool → used ≤ levels → left + used ≡ pool
    → (places - 1) * levels ≤ left
place_used places levels pool used left some enough few is = let e = a_place places levels some in omega arith

-- As many pairs to each child of a node as so many levels need are enough for a level more.
pub level_least : (n levels : ℕ) → 2 * least_children ≤ n → 1 ≤ levels → (1 < levels → 2 * least_children ^ (levels - 1) ≤ n / least_children)
    → 2 * least_children ^ levels ≤ n
level_least n zero many some least = absurd (omega arith)
level_least n (suc zero) many some least = omega arith
level_least n (suc (suc k)) many some least =
    let e : suc (suc k) - 1 ≡ suc k = omega arith in
    let l : 2 * least_children ^ suc k ≤ n / least_children = rw e at least (omega arith) in
    let p = pow-suc least_children (suc k) in
    omega arith
