-- A pair put into the leaf at the end of a path, whose pairs were lent.
use Rattle.std.proofs.Common.{◌≡◌, ℕ, ◌+◌, ◌-◌, ◌<◌, ◌≤◌, List, [], ◌∷◌, ◌++◌, length, get_or, slice_get, take, None, refl, sym, ap, subst, ◌∙◌}
use Rattle.std.proofs.Common.{arith, append-nil}
use Rattle.std.specs.List.{insert}
use Rattle.std.proofs.lemmas.List.Edits.{length-insert}
use Rattle.fc_base.specs.Sizes.{capacity}
use Rattle.fc_tree_node.specs.declared.node.Node.{Node}
use Rattle.fc_tree_node.specs.Blocks.{blocks_of}
use Rattle.fc_tree_node.specs.Node.{own_pairs, child_at, pairs_of, IsLeaf, IsLevelled}
use Rattle.fc_tree_node.specs.Path.{IsPath, before_gap, after_gap}
use Rattle.fc_tree_node.specs.Place.{before_child, before_own, after_own, IsDescent, node_at}
use Rattle.fc_tree_node.specs.Way.{with_pairs, with_node}
use Rattle.fc_tree_node.proofs.Lists.{length_take}
use Rattle.fc_tree_node.proofs.Made.{own_made, field_made}
use Rattle.fc_tree_node.proofs.BlockFacts.{blocks_leaf, with_blocks}
use Rattle.fc_tree_node.proofs.Gaps.{before_more, after_more, place_more, pair_more, before_own_more, after_own_more}
use Rattle.fc_tree_node.proofs.Ways.{last_step, path_way, with_is, with_pairs_of, with_least, with_levels}
use Rattle.fc_tree_insertion.specs.Cascade.{leaf_at}
use Rattle.fc_tree_insertion.specs.NewPair.{IsPutAt}
use Rattle.fc_tree_insertion.proofs.InsertedPairs.{put_in_leaf, stays_around}
use Rattle.fc_tree_insertion.proofs.NewPairs.{put_in_room}

module _ {K V Z : Type 0} where
  leaf_end : (way : List ℕ) (i : ℕ) (n : Node K V Z) → leaf_at (way ++ i ∷ []) n ≡ node_at way n
  leaf_end [] i n = refl
  leaf_end (j ∷ []) i n = refl
  leaf_end (j ∷ j' ∷ way) i n = leaf_end (j' ∷ way) i (child_at n j)

  -- a way to a leaf that has room, and a gap in it
  pub record HasRoomAt (way : List ℕ) (i : ℕ) (n : Node K V Z) : Type 0 where
    pub levels : IsLevelled (length way) n
    pub descent : IsDescent way n
    pub place : i ≤ length (own_pairs (node_at way n))
    pub leaf : IsLeaf (node_at way n)
    pub room : length (own_pairs (node_at way n)) < capacity

  pub room_at : (path : List ℕ) (last : ℕ) (n : Node K V Z) → last + 1 ≡ length path → IsPath path n → IsLevelled (length path - 1) n
      → length (own_pairs (leaf_at path n)) < capacity → HasRoomAt (take last path) (get_or path last 0) n
  room_at path last n e p l r =
      let way = take last path in
      let i = get_or path last 0 in
      let s = last_step path last e in
      let t = length_take last path (omega arith) in
      let high : length path - 1 ≡ length way = omega (arith, e, t) in
      let down = subst (λ h. IsLevelled h n) high l in
      let w = path_way way i n (subst (λ q. IsPath q n) s p) down in
      let same = ap (λ m. length (own_pairs m)) (ap (λ q. leaf_at q n) s ∙ leaf_end way i n) in
      record { levels = down; descent = w.0; place = w.1; leaf = w.2.1; room = omega (arith, r, same) }

  -- what a pair put there leaves
  pub record IsPutInLeaf (path : List ℕ) (old new : Node K V Z) (pair : K × V) : Type 0 where
    pub pairs : pairs_of new ≡ before_gap path old ++ pair ∷ after_gap path old
    pub place : IsPutAt path new pair (before_gap path old) (after_gap path old)

  put_along : (way : List ℕ) (i : ℕ) (n c : Node K V Z) (pair : K × V) → HasRoomAt way i n → IsLeaf c
      → own_pairs c ≡ insert (own_pairs (node_at way n)) i pair → IsPutInLeaf (way ++ i ∷ []) n (with_node n way c) pair
  put_along way i n c pair r leaf own =
      let m = node_at way n in
      let new = with_node n way c in
      let w = with_is way n c r.descent in
      let parts = put_in_leaf (i ∷ []) m c None pair refl r.leaf leaf tt own in
      let put = put_in_room (i ∷ []) m c pair refl r.leaf leaf r.room r.place own parts in
      record {
        pairs = with_pairs_of way (length way) n c r.levels r.descent
            ∙ stays_around (before_gap way n) (pairs_of c) (after_gap way n) (before_gap (i ∷ []) m) (after_gap (i ∷ []) m) pair parts
            ∙ ap (λ zs. (before_gap way n ++ zs) ++ pair ∷ (after_gap (i ∷ []) m ++ after_gap way n)) (append-nil (before_child m i))
            ∙ ap (λ zs. zs ++ pair ∷ (after_gap (i ∷ []) m ++ after_gap way n)) (sym (before_more way i n))
            ∙ ap (λ zs. before_gap (way ++ i ∷ []) n ++ pair ∷ zs) (sym (after_more way i n));
        place = record {
          place = place_more way i new w.descent (subst (λ x. i < length (own_pairs x)) (sym w.here) put.place);
          pair_is = pair_more way i new ∙ ap (λ x. slice_get (own_pairs x) i) w.here ∙ put.pair_is;
          before = before_own_more way i new ∙ ap (λ x. before_gap way new ++ before_own x i) w.here
              ∙ ap (λ zs. zs ++ before_own c i) w.before ∙ ap (λ zs. before_gap way n ++ zs) (put.before ∙ append-nil (before_child m i))
              ∙ sym (before_more way i n);
          after = after_own_more way i new ∙ ap (λ x. after_own x i ++ after_gap way new) w.here
              ∙ ap (λ zs. after_own c i ++ zs) w.after ∙ ap (λ zs. zs ++ after_gap way n) put.after ∙ sym (after_more way i n);
        };
      }

  module _ (path : List ℕ) (last : ℕ) (n : Node K V Z) (ps : List (K × V)) (pair : K × V) (e : last + 1 ≡ length path)
      (r : HasRoomAt (take last path) (get_or path last 0) n) (is : ps ≡ insert (own_pairs (node_at (take last path) n)) (get_or path last 0) pair) where
    abbrev pub with_put : Node K V Z
    with_put = with_node n (take last path) (with_pairs (node_at (take last path) n) ps)

    leaf_own : own_pairs (with_pairs (node_at (take last path) n) ps) ≡ insert (own_pairs (node_at (take last path) n)) (get_or path last 0) pair
    leaf_own = own_made _ ∙ is

    leaf_leaf : IsLeaf (with_pairs (node_at (take last path) n) ps)
    leaf_leaf = field_made _ ∙ r.leaf

    leaf_longer : length (own_pairs (with_pairs (node_at (take last path) n) ps)) ≡ length (own_pairs (node_at (take last path) n)) + 1
    leaf_longer = ap length leaf_own ∙ length-insert (own_pairs (node_at (take last path) n)) (get_or path last 0) pair r.place

    pub put_last : IsPutInLeaf path n with_put pair
    put_last =
        subst (λ q. IsPutInLeaf q n with_put pair) (sym (last_step path last e))
        (put_along (take last path) (get_or path last 0) n _ pair r leaf_leaf leaf_own)

    pub levels_last : IsLevelled (length path - 1) with_put
    levels_last =
        let way = take last path in
        let t = length_take last path (omega arith) in
        let high : length way ≡ length path - 1 = omega (arith, e, t) in
        let longer = leaf_longer in
        subst (λ h. IsLevelled h with_put) high
        (with_levels way (length way) 0 n _ r.levels r.descent (omega arith) (omega (arith, r.room), leaf_leaf) (λ le. omega arith))

    pub size_last : length (own_pairs n) ≤ length (own_pairs with_put)
    size_last = let longer = leaf_longer in with_least (take last path) n _ (length (own_pairs n)) (λ le. omega arith) (omega arith)

    pub blocks_last : blocks_of with_put ≡ blocks_of n
    blocks_last = with_blocks (take last path) n _ r.descent (blocks_leaf _ leaf_leaf ∙ sym (blocks_leaf _ r.leaf))
