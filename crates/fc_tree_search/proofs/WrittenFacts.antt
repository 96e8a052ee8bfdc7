-- A descent to the pair at a place, and what a tree is once a value is written there.
use Rattle.std.proofs.Common.{◌≡◌, ℕ, zero, suc, ◌+◌, ◌<◌, List, [], ◌∷◌, ◌++◌, length, drop, get_or, slice_get, slice_set, Some, refl, sym}
use Rattle.std.proofs.Common.{ap, subst, ◌∙◌, arith, add-one}
use Rattle.fc_tree_node.specs.declared.node.Node.{Node, out-Node, roll-Node}
use Rattle.fc_tree_node.specs.Node.{own_pairs, children_of, child_at}
use Rattle.fc_tree_node.specs.Place.{node_at, IsPlace, place_pair}
use Rattle.fc_tree_node.specs.Way.{with_pairs, with_node}
use Rattle.fc_tree_search.specs.Written.{set_value, with_value, with_child, written}
use Rattle.fc_tree_node.proofs.Gaps.{drop_item, drop_all, item_there}
use Rattle.fc_tree_node.proofs.Ways.{place_way}

module _ {K V : Type 0} where
  module _ {Z : Type 0} where
    pub place_some : (path : List ℕ) (n : Node K V Z) → IsPlace path n → 0 < length path
    place_some [] n p = absurd p
    place_some (i ∷ path) n p = omega arith

    -- one step j of a path that goes on in the child c
    pub record IsStep (path : List ℕ) (n : Node K V Z) (i j : ℕ) : Type 0 where
      pub there : j < length (children_of n)
      pub place : IsPlace (drop (i + 1) path) (child_at n j)
      pub pair : place_pair (drop (i + 1) path) (child_at n j) ≡ place_pair (drop i path) n

    pub place_step : (path : List ℕ) (n : Node K V Z) (i j : ℕ) → i + 1 < length path → j ≡ get_or path i 0 → IsPlace (drop i path) n → IsStep path n i j
    place_step path n i j h e p =
        let next : drop (suc i) path ≡ get_or path (suc i) 0 ∷ drop (suc (suc i)) path = drop_item path (suc i) 0 (omega arith) in
        let same : drop (i + 1) path ≡ get_or path (suc i) 0 ∷ drop (suc (suc i)) path = rw add-one next in
        let all : drop i path ≡ j ∷ get_or path (suc i) 0 ∷ drop (suc (suc i)) path = drop_item path i 0 (omega arith) ∙ ap (λ q. get_or path i 0 ∷ q) next
        ∙ ap (λ m. m ∷ get_or path (suc i) 0 ∷ drop (suc (suc i)) path) (sym e) in
        let q = subst (λ q. IsPlace q n) all p in
        record {
          there = q.0;
          place = subst (λ q. IsPlace q (child_at n j)) (sym same) q.1;
          pair = ap (λ q. place_pair q (child_at n j)) same ∙ ap (λ q. place_pair q n) (sym all);
        }

    -- the end of a path
    pub place_end : (path : List ℕ) (n : Node K V Z) (i m j : ℕ) → m ≡ i → m + 1 ≡ length path → j ≡ get_or path m 0 → IsPlace (drop i path) n
        → (j < length (own_pairs n)) × (place_pair (drop i path) n ≡ slice_get (own_pairs n) j)
    place_end path n i m j s h e p =
        let all : drop i path ≡ j ∷ [] = drop_item path i 0 (omega arith) ∙ ap (λ q. get_or path i 0 ∷ q) (drop_all path (suc i) (omega arith))
        ∙ ap (λ x. get_or path x 0 ∷ []) (sym s) ∙ ap (λ x. x ∷ []) (sym e) in
        (subst (λ q. IsPlace q n) all p, ap (λ q. place_pair q n) all)

    pub own_there : (n : Node K V Z) (i : ℕ) (p : K × V) → i < length (own_pairs n) → p ≡ get_or (own_pairs n) i p → slice_get (own_pairs n) i ≡ Some p
    own_there n i p h e = let x = item_there (own_pairs n) i h in x.2 ∙ ap Some (sym (x.1 p) ∙ sym e)

    -- a place in the pairs that are lent
    pub lent_there : (way : List ℕ) (p : ℕ) (n : Node K V Z) (ps : List (K × V)) → IsPlace (way ++ p ∷ []) n → ps ≡ own_pairs (node_at way n) → p < length ps
    lent_there way p n ps at is = let there = (place_way way p n at).1 in let same = ap length is in omega (arith, there, same)

    -- one step before others
    step_written : (i : ℕ) (way : List ℕ) (p : ℕ) (n : Node K V Z) (w : V)
        → with_child n i (written (child_at n i) (way ++ p ∷ []) w) ≡ written n (i ∷ way ++ p ∷ []) w
    unfolding written
    step_written i [] p n w = refl
    step_written i (j ∷ way) p n w = refl

    -- what the end of a way leaves
    pub way_written : (way : List ℕ) (p : ℕ) (n : Node K V Z) (w : V)
        → with_node n way (with_value (node_at way n) p w) ≡ written n (way ++ p ∷ []) w
    unfolding written
    way_written [] p n w = refl
    way_written (i ∷ way) p n w = ap (with_child n i) (way_written way p (child_at n i) w) ∙ step_written i way p n w

  set_is_value : (s : List (K × V)) (i : ℕ) (e : K × V) (w : V) → i < length s → e ≡ get_or s i e → slice_set s i (e.0, w) ≡ set_value s i w
  set_is_value [] i e w h r = refl
  set_is_value (x ∷ s) zero e w h r = ap (λ y. (y.0, w) ∷ s) r
  set_is_value (x ∷ s) (suc i) e w h r = ap (λ t. x ∷ t) (set_is_value s i e w (omega arith) r)

  module _ {Z : Type 0} where
    -- what a lent pair of the node's own leaves
    pub own_written : (n : Node K V Z) (i : ℕ) (e : K × V) (w : V) → i < length (own_pairs n) → e ≡ get_or (own_pairs n) i e
        → roll-Node K V Z (record { pairs = slice_set (own_pairs n) i (e.0, w); children = (out-Node K V Z n).children }) ≡ with_value n i w
    own_written n i e w h r = ap (λ ps. roll-Node K V Z (record { pairs = ps; children = (out-Node K V Z n).children })) (set_is_value (own_pairs n) i e w h r)

    -- what a pair leaves that was lent out of the pairs at the end of a way
    pub lent_written : (way : List ℕ) (p : ℕ) (n : Node K V Z) (ps : List (K × V)) (e : K × V) (w : V) → ps ≡ own_pairs (node_at way n)
        → p < length (own_pairs (node_at way n)) → e ≡ get_or ps p e
        → with_node n way (with_pairs (node_at way n) (slice_set ps p (e.0, w))) ≡ written n (way ++ p ∷ []) w
    lent_written way p n ps e w is there read =
        ap (λ qs. with_node n way (with_pairs (node_at way n) (slice_set qs p (e.0, w)))) is
        ∙ ap (with_node n way) (own_written (node_at way n) p e w there (read ∙ ap (λ qs. get_or qs p e) is)) ∙ way_written way p n w
