-- What a search knows of the place that it has come to.
use Rattle.std.proofs.Common.{◌≡◌, ℕ, zero, suc, ◌+◌, ◌<◌, ◌≤◌, List, [], ◌∷◌, ◌++◌, length, take, get_or, slice_get, Some, None, IfSome, refl, sym, ap, subst}
use Rattle.std.proofs.Common.{◌∙◌, arith, append_assoc, ◌⊎◌, inl, inr, length-append}
use Rattle.std.specs.Option.{option_map}
use Rattle.std.specs.Prelude.{unwrap_or, IsTrue, true, false}
use Rattle.std.specs.Ordering.{is_lt}
use Rattle.std.specs.declared.cmp.Ordering.{Ordering}
use Rattle.std.specs.declared.cmp.Ordering.TheVariants.{Less, Equal, Greater}
use Rattle.std.proofs.lemmas.Bool.{cases_lt, false≢true}
use Rattle.fc_base.specs.Ascending.{IsAscending}
use Rattle.fc_base.specs.OneKey.{put, cut}
use Rattle.fc_base.specs.Parts.{below, above, at}
use Rattle.fc_base.specs.Query.{IsQueryOrder}
use Rattle.fc_base.specs.Sizes.{most_levels}
use Rattle.fc_tree_node.specs.declared.node.Node.{Node}
use Rattle.fc_tree_node.specs.Node.{own_pairs, children_of, child_at, pairs_of, IsLeaf, IsLevelled}
use Rattle.fc_tree_node.specs.Leaf.{leaf_at}
use Rattle.fc_tree_node.specs.Path.{before_gap, after_gap}
use Rattle.fc_tree_node.specs.Place.{before_child, after_child, before_own, after_own, IsDescent, node_at, place_pair, before_pair, after_pair}
use Rattle.fc_tree_node.specs.Node.{IsTree}
use Rattle.fc_tree_search.specs.Found.{AllBelow, AllAbove, IsFoundAt, IsGapAt, IsFound, IsGap}
use Rattle.fc_tree_node.proofs.Lists.{all_back, all_both}
use Rattle.fc_tree_node.proofs.Pairs.{leaf_children}
use Rattle.fc_tree_node.proofs.Sizes.{level_size}
use Rattle.fc_tree_search.proofs.Ordered.{all_more, ascending_middle, sides_equal, side_lower, side_upper, IsAround, around_gap, around_pair}
use Rattle.fc_tree_node.proofs.Gaps.{take_item, item_there, own_pair, before_child_pair, after_child_pair, after_none, descent_levels, descent_pairs, node_more}
use Rattle.fc_tree_node.proofs.Gaps.{descent_more, before_more, after_more, path_more, place_more, pair_more, before_own_more, after_own_more, gap_pairs}
use Rattle.fc_tree_node.proofs.Gaps.{place_pairs}

-- what is_lt says
pub less_from : (r : Ordering) → is_lt r ≡ true → Less ≡ r
less_from Less e = refl
less_from Equal e = absurd (false≢true e)
less_from Greater e = absurd (false≢true e)

module _ {K Q V : Type 0} (cmp : K → Q → Ordering) (k : Q) where
  -- what the pair that was compared says of its place
  pub lower_here : (s : List (K × V)) (i : ℕ) (p : K × V) → i < length s → AllBelow cmp k (take i s) → p ≡ get_or s i p → Less ≡ cmp p.0 k
      → AllBelow cmp k (take (i + 1) s)
  lower_here s i p h a e q = all_more (λ x. cmp x.0 k ≡ Less) s i p h a (ap (λ x. cmp x.0 k) (sym e) ∙ sym q)

-- a path with one more step
pub one_longer : (path more : List ℕ) (i : ℕ) → more ≡ path ++ i ∷ [] → length more ≡ length path + 1
one_longer path more i e = ap length e ∙ length-append path (i ∷ [])

-- a path ends in the node that all its steps but the last lead to
leaf_more : {K V Z : Type 0} (path : List ℕ) (i : ℕ) (n : Node K V Z) → leaf_at (path ++ i ∷ []) n ≡ node_at path n
leaf_more [] i n = refl
leaf_more (j ∷ []) i n = refl
leaf_more (j ∷ k ∷ path) i n = leaf_more (k ∷ path) i (child_at n j)

-- a levelled node that is no leaf has a child at each gap
pub child_there : {K V Z : Type 0} (h : ℕ) (n : Node K V Z) (i : ℕ) → IsLevelled h n → (IsLeaf n → IsTrue false) → i ≤ length (own_pairs n)
    → i < length (children_of n)
child_there zero n i l not_leaf le = let no : false ≡ true = not_leaf l.1 in absurd cc
child_there (suc h) n i l not_leaf le = omega arith

-- a descent has come to the node, with smaller keys before it and greater keys after it
pub record IsOnWay {K Q V Z : Type 0} (cmp : K → Q → Ordering) (k : Q) (root node : Node K V Z) (path : List ℕ) : Type 0 where
  pub descent : IsDescent path root
  pub here : node ≡ node_at path root
  pub front : AllBelow cmp k (before_gap path root)
  pub back : AllAbove cmp k (after_gap path root)

-- a search for the key, down an ascending tree, has come to the node
pub record IsSearch {K Q V Z : Type 0} (own : K → K → Ordering) (cmp : K → Q → Ordering) (k : Q) (root node : Node K V Z) (path : List ℕ) : Type 0 where
  pub fits : IsQueryOrder own cmp
  pub levels : IsTree root
  pub order : IsAscending own (pairs_of root)
  pub way : IsOnWay cmp k root node path

module _ {K Q V Z : Type 0} (cmp : K → Q → Ordering) (k : Q) where
  -- the levels of the node that a search has come to
  pub way_levels : {root node : Node K V Z} {path : List ℕ} (t : IsTree root) → IsOnWay cmp k root node path
      → (g : ℕ) × (length path + g ≡ t.0) × IsLevelled g node
  way_levels {root} {node} {path} t w = let d = descent_levels path t.0 root t.2 w.descent in (d.0, d.1, subst (IsLevelled d.0) (sym w.here) d.2)

  -- the path with one more step ends in it
  pub way_leaf : {root node : Node K V Z} {path : List ℕ} (i : ℕ) (more : List ℕ) → more ≡ path ++ i ∷ [] → IsOnWay cmp k root node path
      → leaf_at more root ≡ node
  way_leaf {root} {node} {path} i more e w = ap (λ p. leaf_at p root) e ∙ leaf_more path i root ∙ sym w.here

  -- a path has room for its steps
  pub way_room : {root node : Node K V Z} {path : List ℕ} → IsTree root → IsOnWay cmp k root node path → length path < most_levels
  way_room t w = let d = way_levels t w in omega (arith, d.1, t.1)

  -- a place in it fits a byte
  pub way_small : {root node : Node K V Z} {path : List ℕ} (i : ℕ) → IsTree root → IsOnWay cmp k root node path → i ≤ length (own_pairs node) → i < 256
  way_small i t w le = let d = way_levels t w in let fits = level_size d.0 _ d.2 in omega arith

  -- its pairs are ascending
  pub way_ascending : (own : K → K → Ordering) {root node : Node K V Z} {path : List ℕ} → IsTree root → IsAscending own (pairs_of root)
      → IsOnWay cmp k root node path → IsAscending own (pairs_of node)
  way_ascending own {root} {node} {path} t a w =
      let b = subst (IsAscending own) (descent_pairs path t.0 root t.2 w.descent) a in
      subst (λ n. IsAscending own (pairs_of n)) (sym w.here) (ascending_middle own (before_gap path root) (pairs_of (node_at path root)) (after_gap path root)
      b)

module _ {K Q V Z : Type 0} {own : K → K → Ordering} {cmp : K → Q → Ordering} (o : IsQueryOrder own cmp) (k : Q) where
  -- what leads to a gap between a node's own pairs is below the key
  before_below : (h : ℕ) (n : Node K V Z) (i : ℕ) → IsLevelled h n → IsAscending own (pairs_of n) → IsGapAt cmp k (own_pairs n) i
      → AllBelow cmp k (before_child n i)
  before_below h n zero l a f = tt
  before_below h n (suc i) l a f =
      let s = own_pairs n in
      let lt : i < length s = omega (arith, f.0) in
      let t = item_there s i lt in
      let p = t.0 in
      let at_end : AllBelow cmp k (take i s ++ get_or s i p ∷ []) = subst (AllBelow cmp k) (take_item s i p lt) f.1 in
      let lower = (all_back (λ x. cmp x.0 k ≡ Less) (take i s) (get_or s i p ∷ []) at_end).0 in
      let b = subst (IsAscending own) (own_pair h n i p l lt) a in
      subst (AllBelow cmp k) (sym (before_child_pair h n i p l lt)) (side_lower o k (before_own n i) (after_own n i) (get_or s i p) b lower)

  -- and what is after it is above the key
  rest_above : (h : ℕ) (n : Node K V Z) (i : ℕ) → IsLevelled h n → IsAscending own (pairs_of n) → IsGapAt cmp k (own_pairs n) i
      → (i < length (own_pairs n)) ⊎ (length (own_pairs n) ≤ i) → AllAbove cmp k (after_child n i)
  rest_above h n i l a f (inr le) = subst (AllAbove cmp k) (sym (after_none n i le)) tt
  rest_above h n i l a f (inl lt) =
      let t = item_there (own_pairs n) i lt in
      let p = get_or (own_pairs n) i t.0 in
      let b = subst (IsAscending own) (own_pair h n i t.0 l lt) a in
      subst (AllAbove cmp k) (sym (after_child_pair n i t.0 lt)) (side_upper o k (before_own n i) (after_own n i) p b (f.2 t.0 lt))

module _ {K Q V Z : Type 0} {own : K → K → Ordering} {cmp : K → Q → Ordering} {k : Q} {root node : Node K V Z} {path : List ℕ}
    (on : IsSearch own cmp k root node path) where
  -- the path, with a gap of the node as its last step
  way_front : (i : ℕ) → IsGapAt cmp k (own_pairs node) i → AllBelow cmp k (before_gap (path ++ i ∷ []) root)
  way_front i f =
      let d = way_levels cmp k on.levels on.way in
      let b = before_below on.fits k d.0 node i d.2 (way_ascending cmp k own on.levels on.order on.way) f in
      subst (AllBelow cmp k) (sym (before_more path i root ∙ ap (λ n. before_gap path root ++ before_child n i) (sym on.way.here)))
      (all_both (λ x. cmp x.0 k ≡ Less) (before_gap path root) (before_child node i) on.way.front b)

  way_back : (i : ℕ) → IsGapAt cmp k (own_pairs node) i → AllAbove cmp k (after_gap (path ++ i ∷ []) root)
  way_back i f =
      let d = way_levels cmp k on.levels on.way in
      let b = rest_above on.fits k d.0 node i d.2 (way_ascending cmp k own on.levels on.order on.way) f (cases_lt i (length (own_pairs node))) in
      subst (AllAbove cmp k) (sym (after_more path i root ∙ ap (λ n. after_child n i ++ after_gap path root) (sym on.way.here)))
      (all_both (λ x. cmp x.0 k ≡ Greater) (after_child node i) (after_gap path root) b on.way.back)

  -- the search goes on in a child
  pub way_more : (i : ℕ) (child : Node K V Z) (more : List ℕ) → more ≡ path ++ i ∷ [] → IsGapAt cmp k (own_pairs node) i → i < length (children_of node)
      → child ≡ child_at node i → IsOnWay cmp k root child more
  way_more i child more is f lt e = subst (IsOnWay cmp k root child) (sym is) record {
    descent = descent_more path i root on.way.descent (subst (λ n. i < length (children_of n)) on.way.here lt);
    here = e ∙ ap (λ n. child_at n i) on.way.here ∙ sym (node_more path i root);
    front = way_front i f;
    back = way_back i f;
  }

  -- the search ends at a gap of a leaf
  pub way_gap : (i : ℕ) (more : List ℕ) → more ≡ path ++ i ∷ [] → IsGapAt cmp k (own_pairs node) i → IsLeaf node → IsGap cmp k root more
  way_gap i more is f leaf = subst (IsGap cmp k root) (sym is) record {
    way = path_more path i on.levels.0 root on.levels.2 on.way.descent (subst (λ n. i ≤ length (own_pairs n)) on.way.here f.0);
    levels = λ h l. let d = descent_levels path h root l on.way.descent in last h d.0 d.1 (subst (IsLevelled d.0) (sym on.way.here) d.2);
    front = way_front i f;
    back = way_back i f;
  }
    where
      last : (g j : ℕ) → length path + j ≡ g → IsLevelled j node → length (path ++ i ∷ []) ≡ g + 1
      last g zero e m = omega (arith, length-append path (i ∷ []))
      last g (suc j) e m =
          let none : length (children_of node) ≡ 0 = ap length (leaf_children node leaf) in
          absurd (omega arith)

  -- the search ends at a pair of the node
  pub way_found : (i : ℕ) (more : List ℕ) → more ≡ path ++ i ∷ [] → IsFoundAt cmp k (own_pairs node) i → IsFound cmp k root more
  way_found i more same f =
      let d = way_levels cmp k on.levels on.way in
      let x = item_there (own_pairs node) i f.0 in
      let p = x.0 in
      let cut : pairs_of node ≡ before_own node i ++ p ∷ after_own node i = own_pair d.0 node i p d.2 f.0
      ∙ ap (λ z. before_own node i ++ z ∷ after_own node i) (x.1 p) in
      let whole : pairs_of root ≡ (before_gap path root ++ before_own node i) ++ p ∷ (after_own node i ++ after_gap path root) =
      descent_pairs path on.levels.0 root on.levels.2 on.way.descent
      ∙ ap (λ n. before_gap path root ++ (pairs_of n ++ after_gap path root)) (sym on.way.here)
      ∙ ap (λ s. before_gap path root ++ (s ++ after_gap path root)) cut
      ∙ regroup (before_gap path root) (before_own node i) (after_own node i) (after_gap path root) p in
      let equal : cmp p.0 k ≡ Equal = ap (λ x. cmp x.0 k) (sym (x.1 p)) ∙ f.2 p in
      let sides = sides_equal on.fits k (before_gap path root ++ before_own node i) (after_own node i ++ after_gap path root) p
      (subst (IsAscending own) whole on.order) equal in
      let is : place_pair (path ++ i ∷ []) root ≡ Some p = pair_more path i root ∙ ap (λ n. slice_get (own_pairs n) i) (sym on.way.here) ∙ x.2 in
      subst (IsFound cmp k root) (sym same) record {
        place = place_more path i root on.way.descent (subst (λ n. i < length (own_pairs n)) on.way.here f.0);
        equal = subst (λ x. IfSome x (λ e. cmp e.0 k ≡ Equal)) (sym is) equal;
        before = subst (AllBelow cmp k) (sym (before_own_more path i root ∙ ap (λ n. before_gap path root ++ before_own n i) (sym on.way.here))) sides.0;
        after = subst (AllAbove cmp k) (sym (after_own_more path i root ∙ ap (λ n. after_own n i ++ after_gap path root) (sym on.way.here))) sides.1;
      }
    where
      regroup : (x y z u : List (K × V)) (p : K × V) → x ++ ((y ++ p ∷ z) ++ u) ≡ (x ++ y) ++ p ∷ (z ++ u)
      regroup x y z u p = simp append_assoc

module _ {K Q V Z : Type 0} (cmp : K → Q → Ordering) (k : Q) where
  -- what a path to a found pair says of the tree's list
  pub found_at : (path : List ℕ) (h : ℕ) (root : Node K V Z) → IsLevelled h root → IsFound cmp k root path
      → IsAround cmp k (pairs_of root) (before_pair path root) (after_pair path root) (place_pair path root)
  found_at path h root l f =
      let c = place_pairs path h root l f.place in
      let equal : cmp c.pair.0 k ≡ Equal = subst (λ x. IfSome x (λ e. cmp e.0 k ≡ Equal)) c.is f.equal in
      let r = around_pair cmp k (before_pair path root) (after_pair path root) c.pair f.before equal f.after in
      record {
        lower = ap (λ s. below cmp s k) c.parts ∙ r.lower;
        upper = ap (λ s. above cmp s k) c.parts ∙ r.upper;
        here = ap (λ s. at cmp s k) c.parts ∙ r.here ∙ sym c.is;
      }

  -- what a path to a gap says of the tree's list
  pub gap_at : (path : List ℕ) (h : ℕ) (root : Node K V Z) → IsLevelled h root → IsGap cmp k root path
      → IsAround cmp k (pairs_of root) (before_gap path root) (after_gap path root) None
  gap_at path h root l f =
      let e = gap_pairs path h root l (f.levels h l) f.way in
      let r = around_gap cmp k (before_gap path root) (after_gap path root) f.front f.back in
      record {
        lower = ap (λ s. below cmp s k) e ∙ r.lower;
        upper = ap (λ s. above cmp s k) e ∙ r.upper;
        here = ap (λ s. at cmp s k) e ∙ r.here;
      }

  -- the list without the pair at a key, where there is one
  pub found_cut : (path : List ℕ) (h : ℕ) (root : Node K V Z) → IsLevelled h root → IsFound cmp k root path
      → cut cmp (pairs_of root) k ≡ before_pair path root ++ after_pair path root
  found_cut path h root l f = let a = found_at path h root l f in ap (λ s. s ++ above cmp (pairs_of root) k) a.lower
      ∙ ap (λ s. before_pair path root ++ s) a.upper

module _ {K V Z : Type 0} (cmp : K → K → Ordering) (k : K) where
  -- the list with a value at a key that is not there
  pub gap_put : (path : List ℕ) (h : ℕ) (root : Node K V Z) (v : V) → IsLevelled h root → IsGap cmp k root path
      → put cmp (pairs_of root) k v ≡ before_gap path root ++ (k, v) ∷ after_gap path root
  gap_put path h root v l f =
      let a = gap_at cmp k path h root l f in
      ap (λ s. s ++ (unwrap_or (option_map (λ e. e.0) (at cmp (pairs_of root) k)) k, v) ∷ above cmp (pairs_of root) k) a.lower
      ∙ ap (λ x. before_gap path root ++ (unwrap_or (option_map (λ e. e.0) x) k, v) ∷ above cmp (pairs_of root) k) a.here
      ∙ ap (λ s. before_gap path root ++ (k, v) ∷ s) a.upper

module _ {K Q V Z : Type 0} {own : K → K → Ordering} {cmp : K → Q → Ordering} {k : Q} {root node : Node K V Z} {path : List ℕ}
    (on : IsSearch own cmp k root node path) where
  -- what the look-up of the key gives, where the search ends at a pair
  pub value_found : (i : ℕ) (p : K × V) → IsFoundAt cmp k (own_pairs node) i → p ≡ get_or (own_pairs node) i p → Some p ≡ at cmp (pairs_of root) k
  value_found i p f e =
      let x = item_there (own_pairs node) i f.0 in
      let is : place_pair (path ++ i ∷ []) root ≡ Some p = pair_more path i root ∙ ap (λ n. slice_get (own_pairs n) i) (sym on.way.here) ∙ x.2
      ∙ ap Some (sym (x.1 p) ∙ sym e) in
      let r = found_at cmp k (path ++ i ∷ []) on.levels.0 root on.levels.2 (way_found on i _ refl f) in
      sym (r.here ∙ is)

  -- and where it ends at a gap of a leaf
  pub value_none : (i : ℕ) → IsGapAt cmp k (own_pairs node) i → IsLeaf node → None ≡ at cmp (pairs_of root) k
  value_none i f leaf = let r = gap_at cmp k (path ++ i ∷ []) on.levels.0 root on.levels.2 (way_gap on i _ refl f leaf) in sym r.here
