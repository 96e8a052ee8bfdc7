-- A pair taken out of the leaf at the end of a path, which keeps enough, and whose pairs were lent.
use Rattle.std.proofs.Common.{◌≡◌, ℕ, zero, suc, ◌+◌, ◌<◌, ◌≤◌, List, [], ◌∷◌, ◌++◌, length, get_or, map, take, drop, Some, refl, sym, ap, subst, ◌∙◌}
use Rattle.std.proofs.Common.{arith, append_assoc}
use Rattle.std.specs.List.{remove}
use Rattle.std.proofs.lemmas.List.Edits.{length-remove}
use Rattle.fc_base.specs.Sizes.{capacity, min_len}
use Rattle.fc_tree_node.specs.Weave.{weave}
use Rattle.fc_tree_node.specs.declared.node.Node.{Node}
use Rattle.fc_tree_node.specs.Blocks.{blocks_of}
use Rattle.fc_tree_node.specs.Node.{own_pairs, child_at, pairs_of, IsLeaf, IsLevelled}
use Rattle.fc_tree_node.specs.Path.{before_gap, after_gap}
use Rattle.fc_tree_node.specs.Place.{before_own, after_own, IsDescent, node_at, IsPlace, place_pair, before_pair, after_pair}
use Rattle.fc_tree_node.specs.Way.{with_pairs, with_node}
use Rattle.fc_tree_node.specs.Shrunk.{IsOneFewer, IsShrunk}
use Rattle.fc_tree_node.proofs.BlockFacts.{blocks_leaf, with_blocks}
use Rattle.fc_tree_node.proofs.Made.{own_made, field_made}
use Rattle.fc_tree_node.proofs.Pairs.{leaf_pairs, leaf_children}
use Rattle.fc_tree_node.proofs.Gaps.{pair_more, before_own_more, after_own_more, descent_levels}
use Rattle.fc_tree_node.proofs.Lent.{replaced}
use Rattle.fc_tree_node.proofs.Ways.{last_step, place_way, with_pairs_of, with_least, with_levels}
use Rattle.fc_tree_removal.specs.Removal.{IsSpared}
use Rattle.fc_tree_removal.proofs.Removed.{get_there, none_leaf, leaf_shrunk}

remove_is : {X : Type 0} (xs : List X) (i : ℕ) → remove xs i ≡ take i xs ++ drop (suc i) xs
remove_is [] zero = refl
remove_is [] (suc i) = refl
remove_is (x ∷ xs) zero = refl
remove_is (x ∷ xs) (suc i) = ap (λ zs. x ∷ zs) (remove_is xs i)

module _ {K V Z : Type 0} where
  pub place_some : (path : List ℕ) (n : Node K V Z) → IsPlace path n → 0 < length path
  place_some [] n p = absurd p
  place_some (i ∷ path) n p = omega arith

  spared_end : (way : List ℕ) (i : ℕ) (n : Node K V Z) → IsSpared (way ++ i ∷ []) n → IsLeaf (node_at way n) × (min_len < length (own_pairs (node_at way n)))
  spared_end [] i n s = s
  spared_end (j ∷ []) i n s = s
  spared_end (j ∷ j' ∷ way) i n s = spared_end (j' ∷ way) i (child_at n j) s

  -- a way to a leaf that keeps enough, and a pair of it
  pub record IsSparedAt (way : List ℕ) (i : ℕ) (n : Node K V Z) : Type 0 where
    pub descent : IsDescent way n
    pub place : i < length (own_pairs (node_at way n))
    pub leaf : IsLeaf (node_at way n)
    pub enough : min_len < length (own_pairs (node_at way n))

  pub spared_at : (path : List ℕ) (last : ℕ) (n : Node K V Z) → last + 1 ≡ length path → IsPlace path n → IsSpared path n
      → IsSparedAt (take last path) (get_or path last 0) n
  spared_at path last n e p s =
      let way = take last path in
      let i = get_or path last 0 in
      let k = last_step path last e in
      let w = place_way way i n (subst (λ q. IsPlace q n) k p) in
      let l = spared_end way i n (subst (λ q. IsSpared q n) k s) in
      record { descent = w.0; place = w.1; leaf = l.0; enough = l.1 }

  -- where the first node itself lost a pair, it is the leaf
  lost_leaf : (way : List ℕ) (h : ℕ) (n c : Node K V Z) → IsLevelled h n → IsLeaf (node_at way n)
      → length (own_pairs (with_node n way c)) < length (own_pairs n) → h ≡ 0
  lost_leaf [] h n c l leaf lost = none_leaf h n leaf l
  lost_leaf (j ∷ way) h n c l leaf lost = let m = replaced n j (with_node (child_at n j) way c) in absurd (omega (arith, m.size, lost))

  one_fewer : (way : List ℕ) (n c : Node K V Z) → length (own_pairs c) + 1 ≡ length (own_pairs (node_at way n)) → IsOneFewer n (with_node n way c)
  one_fewer [] n c e = (omega (arith, e), omega (arith, e))
  one_fewer (j ∷ way) n c e = let m = replaced n j (with_node (child_at n j) way c) in (omega (arith, m.size), omega (arith, m.size))

  module _ (path : List ℕ) (last : ℕ) (n : Node K V Z) (ps : List (K × V)) (e : last + 1 ≡ length path) (s : IsSparedAt (take last path) (get_or path last 0) n)
      (is : ps ≡ remove (own_pairs (node_at (take last path) n)) (get_or path last 0)) where
    abbrev leaf : Node K V Z
    leaf = node_at (take last path) n

    abbrev left : Node K V Z
    left = with_pairs leaf ps

    abbrev pub without : Node K V Z
    without = with_node n (take last path) left

    left_own : own_pairs left ≡ remove (own_pairs leaf) (get_or path last 0)
    left_own = own_made _ ∙ is

    left_leaf : IsLeaf left
    left_leaf = field_made _ ∙ s.leaf

    left_shorter : length (own_pairs left) + 1 ≡ length (own_pairs leaf)
    left_shorter = let a = ap length left_own in let b = length-remove (own_pairs leaf) (get_or path last 0) s.place in omega (arith, a, b)

    left_pairs : pairs_of left ≡ before_own leaf (get_or path last 0) ++ after_own leaf (get_or path last 0)
    left_pairs =
        let i = get_or path last 0 in
        let none = leaf_children leaf s.leaf in
        leaf_pairs left left_leaf ∙ left_own ∙ remove_is (own_pairs leaf) i
        ∙ ap (λ cs. weave (map pairs_of (take (suc i) cs)) (take i (own_pairs leaf)) ++ weave (map pairs_of (drop (suc i) cs)) (drop (suc i) (own_pairs leaf)))
        (sym none)

    pub pair_out : (x : K × V) → x ≡ get_or (own_pairs leaf) (get_or path last 0) x → place_pair path n ≡ Some x
    pair_out x read =
        ap (λ q. place_pair q n) (last_step path last e) ∙ pair_more (take last path) (get_or path last 0) n
        ∙ get_there (own_pairs leaf) (get_or path last 0) x s.place read

    pub pairs_out : (h : ℕ) → IsLevelled h n → pairs_of without ≡ before_pair path n ++ after_pair path n
    pairs_out h l =
        let way = take last path in
        let i = get_or path last 0 in
        let k = last_step path last e in
        with_pairs_of way h n left l s.descent
        ∙ ap (λ zs. before_gap way n ++ (zs ++ after_gap way n)) left_pairs
        ∙ regroup (before_gap way n) (before_own leaf i) (after_own leaf i) (after_gap way n)
        ∙ ap (λ zs. zs ++ (after_own leaf i ++ after_gap way n)) (sym (before_own_more way i n))
        ∙ ap (λ zs. before_pair (way ++ i ∷ []) n ++ zs) (sym (after_own_more way i n))
        ∙ ap (λ q. before_pair q n ++ after_pair q n) (sym k)
      where
        regroup : (a b c d : List (K × V)) → a ++ ((b ++ c) ++ d) ≡ (a ++ b) ++ (c ++ d)
        regroup a b c d = simp append_assoc

    pub shrunk_out : (h : ℕ) → IsLevelled h n → IsShrunk h n without
    shrunk_out h l =
        let way = take last path in
        let d = descent_levels way h n l s.descent in
        let shorter = left_shorter in
        let down = leaf_shrunk d.0 leaf left (get_or path last 0) s.leaf d.2 s.place left_own left_leaf in
        (with_levels way h d.0 n left l s.descent d.1 down.0 (λ le. omega (arith, s.enough)), one_fewer way n left shorter)

    pub some_out : 1 ≤ length (own_pairs n) → 0 < length (own_pairs without)
    some_out some =
        let shorter = left_shorter in
        let le : 1 ≤ length (own_pairs without) = with_least (take last path) n left 1 (λ one. omega (arith, s.enough)) some in
        omega arith

    pub lost_out : (h : ℕ) → IsLevelled h n → length (own_pairs without) < length (own_pairs n) → h ≡ 0
    lost_out h l lost = lost_leaf (take last path) h n left l s.leaf lost

    pub fits_out : (h : ℕ) → IsLevelled h n → length (own_pairs leaf) ≤ capacity
    fits_out h l =
        let d = descent_levels (take last path) h n l s.descent in
        let z = none_leaf d.0 leaf s.leaf d.2 in
        (subst (λ k. IsLevelled k leaf) z d.2).0

    pub blocks_out : blocks_of without ≡ blocks_of n
    blocks_out = with_blocks (take last path) n left s.descent (blocks_leaf left left_leaf ∙ sym (blocks_leaf leaf s.leaf))
