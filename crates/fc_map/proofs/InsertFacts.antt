-- An insertion into a gap of a tree.
use Rattle.std.proofs.Common.{◌≡◌, ℕ, zero, suc, ◌+◌, ◌<◌, true, false, inl, inr, List, [], ◌∷◌, ◌++◌, length, Some, refl, sym, ◌∙◌, arith}
use Rattle.std.specs.Prelude.{if◌then◌else◌}
use Rattle.std.proofs.lemmas.Bool.Decides.{eqb_tells}
use Rattle.std.specs.declared.cmp.Ordering.{Ordering}
use Rattle.fc_base.specs.OneKey.{put}
use Rattle.fc_tree_node.specs.declared.node.Node.{Node}
use Rattle.fc_base.specs.Sizes.{capacity}
use Rattle.fc_tree_node.specs.Leaf.{leaf_at}
use Rattle.fc_tree_node.specs.Node.{own_pairs, child_at, pairs_of, IsLevelled}
use Rattle.fc_tree_node.specs.Path.{IsPath, before_gap, after_gap}
use Rattle.fc_tree_node.proofs.Pairs.{child_below}
use Rattle.fc_tree_insertion.specs.Cascade.{all_full, cascade, nodes_needed}
use Rattle.fc_tree_search.specs.Found.{IsGap}
use Rattle.fc_tree_search.proofs.SearchFacts.{gap_at}
use Rattle.fc_map.specs.Entries.{IsSoundMap}
use Rattle.fc_map.specs.Place.{TellsRoom}

module _ {K V Z : Type 0} (root : Node K V Z) (path : List ℕ) (sound : IsSoundMap (Some root)) where
  -- The pairs before the gap, the new pair and those after it are what `put` makes.
  pub put_in : (cmp : K → K → Ordering) (k : K) (v : V) (s : List (K × V)) → IsGap cmp k root path → s ≡ before_gap path root ++ (k, v) ∷ after_gap path root
      → s ≡ put cmp (pairs_of root) k v
  put_in cmp k v s gap e = let a = gap_at cmp k path sound.0 root sound.2.1 gap in e ∙ rw (a.lower, a.upper, a.here) refl

module _ {K V Z : Type 0} where
  room_left : (path : List ℕ) (h : ℕ) (n : Node K V Z) → IsLevelled h n → length path ≡ h + 1 → IsPath path n → cascade path n ≡ 0
      → length (own_pairs (leaf_at path n)) < capacity
  room_left [] h n l e p none = absurd (omega arith)
  room_left (i ∷ []) zero n l e p none = elim (eqb_tells (length (own_pairs n)) capacity) [
    | inl w ↦ absurd (let z = rw w.0 at none in omega arith)
    | inr w ↦ (let small = l.0 in let other = w.1 in omega arith)
  ]
  room_left (i ∷ []) (suc h) n l e p none = absurd (omega arith)
  room_left (i ∷ j ∷ path) zero n l e p none = absurd (omega arith)
  room_left (i ∷ j ∷ path) (suc h) n l e p none =
      let below = cascade (j ∷ path) (child_at n i) in
      room_left (j ∷ path) h (child_at n i) (child_below h n i l p.0).1 (omega arith) p.1
      (elim (all_full (i ∷ j ∷ path) n) as (λ b. (if b then suc (suc (length path)) else below) ≡ 0 → below ≡ 0)
      [ true ↦ (λ z. absurd (omega arith)) | false ↦ (λ z. z) ] none)

  -- Where an insertion takes no node, the leaf has room.
  pub leaf_has_room : (root : Node K V Z) (path : List ℕ) → IsSoundMap (Some root) → (cmp : K → K → Ordering) (k : K) → IsGap cmp k root path
      → 0 ≡ nodes_needed path root → TellsRoom true path (Some root)
  leaf_has_room root path sound cmp k gap none =
      let split = elim (all_full path root) as (λ b. 0 ≡ (if b then cascade path root + 1 else cascade path root) → cascade path root ≡ 0)
      [ true ↦ (λ z. absurd (omega arith)) | false ↦ (λ z. sym z) ] none in
      (λ _. room_left path sound.0 root sound.2.1 (gap.levels sound.0 sound.2.1) gap.way split, λ _. refl)
