-- A sound tree after an insertion into one of its gaps.
use Rattle.std.proofs.Common.{◌≡◌, ℕ, suc, zero, ◌+◌, ◌-◌, ◌*◌, ◌^◌, ◌<◌, ◌≤◌, Bool, true, false, List, [], ◌∷◌, ◌++◌, length, Some, refl, ap, ◌∙◌, arith}
use Rattle.std.proofs.Common.{length-append}
use Rattle.fc_base.specs.Sizes.{level_moves}
use Rattle.fc_base.specs.declared.count.Count.{Count}
use Rattle.fc_tree_node.specs.declared.node.Node.{Node}
use Rattle.fc_tree_node.specs.Depth.{HasFewMoves}
use Rattle.fc_tree_node.specs.Node.{own_pairs, child_at, pairs_of, IsLevelled, IsSoundRoot}
use Rattle.fc_tree_node.specs.Path.{IsPath, before_gap, after_gap}
use Rattle.fc_tree_node.specs.Place.{before_child, after_child}
use Rattle.fc_tree_node.specs.Tree.{IsSoundMap}
use Rattle.fc_tree_node.proofs.DepthFacts.{deep_root, few_levels}
use Rattle.fc_tree_node.proofs.Gaps.{inner_gap, gap_pairs}
use Rattle.fc_tree_node.proofs.Pairs.{child_below, leaf_pairs}
use Rattle.fc_tree_insertion.specs.Cascade.{leaf_at, all_full}

module _ {K V Z : Type 0} where
  -- A tree holds the pairs of the leaf that a path ends in.
  pub leaf_within : (path : List ℕ) (h : ℕ) (n : Node K V Z) → IsLevelled h n → length path ≡ h + 1 → IsPath path n
      → length (own_pairs (leaf_at path n)) ≤ length (pairs_of n)
  leaf_within [] h n l e p = absurd (omega arith)
  leaf_within (i ∷ []) zero n l e p = let q = ap length (leaf_pairs n l.1) in omega arith
  leaf_within (i ∷ []) (suc h) n l e p = absurd (omega arith)
  leaf_within (i ∷ j ∷ path) zero n l e p = absurd (omega arith)
  leaf_within (i ∷ j ∷ path) (suc h) n l e p =
      let below = leaf_within (j ∷ path) h (child_at n i) (child_below h n i l p.0).1 (omega arith) p.1 in
      let parts = ap length (inner_gap n i l.1 p.0) ∙ length-append (before_child n i) (pairs_of (child_at n i) ++ after_child n i) in
      omega (arith, parts, length-append (pairs_of (child_at n i)) (after_child n i), below)

  module _ (root : Node K V Z) (path : List ℕ) (sound : IsSoundMap (Some root)) (steps : length path ≡ sound.0 + 1) where
    pub gap_sound : IsSoundRoot (length path - 1) root
    gap_sound = let h : length path - 1 ≡ sound.0 = omega arith in rw h sound.2

    -- There is one pair more.
    pub length_in : (p : K × V) (s : List (K × V)) → IsPath path root → s ≡ before_gap path root ++ p ∷ after_gap path root
        → length s ≡ length (pairs_of root) + 1
    length_in p s way e =
        let g = gap_pairs path sound.0 root sound.2.1 steps way in
        ap length e ∙ length-append (before_gap path root) (p ∷ after_gap path root)
        ∙ (let m = ap length g ∙ length-append (before_gap path root) (after_gap path root) in omega arith)

    -- The tree that an insertion leaves is sound.
    pub sound_in : (new : Node K V Z) → length (pairs_of new) < 2 ^ 64 → (all_full path root ≡ false → IsSoundRoot (length path - 1) new)
        → (all_full path root ≡ true → IsSoundRoot (length path) new × (length (own_pairs new) ≡ 1)) → IsSoundMap (Some new)
    sound_in new fits same higher = go (all_full path root) refl
      where
        some : (h : ℕ) → IsSoundRoot h new → IsSoundMap (Some new)
        some h s = (h, few_levels h _ (deep_root h new s) fits, s)

        go : (b : Bool) → all_full path root ≡ b → IsSoundMap (Some new)
        go false is = some (length path - 1) (same is)
        go true is = some (length path) (higher is).0

    -- The moves of an insertion into a tree of so many levels.
    pub moves_in : (n : ℕ) (old new : Count) → n ≡ length (pairs_of root) + 1 → new.moves ≤ old.moves + level_moves * length path → HasFewMoves n old new
    moves_in n old new is few = let d = deep_root sound.0 root sound.2 in (sound.0, omega arith, omega arith)
