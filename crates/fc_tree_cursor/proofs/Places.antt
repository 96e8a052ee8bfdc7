-- The places of the pairs next to a key, by paths to gaps and to pairs.
use Rattle.std.proofs.Common.{◌≡◌, ℕ, zero, suc, ◌+◌, ◌-◌, ◌<◌, ◌≤◌, IsTrue, true, false, List, [], ◌∷◌, ◌++◌, length, take, get_or, Some, IfSome}
use Rattle.std.proofs.Common.{append-nil, length-append, refl, sym, ap, subst, ◌∙◌, arith}
use Rattle.std.specs.Prelude.{slice_set}
use Rattle.std.specs.declared.cmp.Ordering.{Ordering}
use Rattle.std.specs.declared.cmp.Ordering.TheVariants.{Equal}
use Rattle.fc_base.specs.Parts.{below}
use Rattle.fc_base.specs.Sizes.{most_levels}
use Rattle.fc_tree_node.specs.declared.node.Node.{Node}
use Rattle.fc_tree_node.specs.Leaf.{leaf_at}
use Rattle.fc_tree_node.specs.LeafGap.{IsLeafGap}
use Rattle.fc_tree_node.specs.Node.{own_pairs, children_of, child_at, pairs_of, IsLeaf, IsLevelled, IsTree}
use Rattle.fc_tree_node.specs.Path.{IsPath, before_gap}
use Rattle.fc_tree_node.specs.Place.{before_child, before_own, IsPlace, IsDescent, node_at, before_pair}
use Rattle.fc_tree_node.specs.Tree.{Map}
use Rattle.fc_tree_node.specs.TreePlace.{IsPlaceIn, before_pair_in}
use Rattle.fc_tree_node.proofs.Gaps.{before_own_more, descent_levels, gap_pairs, place_pairs, step_levels}
use Rattle.fc_tree_node.proofs.Lists.{length_take}
use Rattle.fc_tree_node.proofs.Pairs.{child_below}
use Rattle.fc_tree_search.specs.Found.{IsFound, IsGap}
use Rattle.fc_tree_search.specs.Neighbours.{not_above}
use Rattle.fc_tree_search.proofs.NeighbourFacts.{gap_from, pair_from}
use Rattle.fc_tree_search.proofs.SearchFacts.{child_there, found_at, gap_at}
use Rattle.fc_tree_cursor.specs.Gap.{GoesOn, EndsIn, LeadsTo}
use Rattle.fc_tree_cursor.proofs.GapFacts.{IsLast, leaf_before_own, next_before, place_back}
use Rattle.fc_tree_node.proofs.Formed.{one_height}
use Rattle.fc_tree_cursor.proofs.Ways.{end_set, leaf_node}
use Rattle.fc_tree_cursor.specs.Beside.{IsNextIn, IsLastIn}

-- A path is its last step and what leads there.
pub parted : (path : List ℕ) (last : ℕ) → last + 1 ≡ length path → path ≡ take last path ++ get_or path last 0 ∷ []
parted [] last e = absurd (omega arith)
parted (i ∷ []) zero e = refl
parted (i ∷ []) (suc last) e = absurd (omega arith)
parted (i ∷ j ∷ path) zero e = absurd (omega arith)
parted (i ∷ j ∷ path) (suc last) e = ap (λ p. i ∷ p) (parted (j ∷ path) last (omega arith))

module _ {K V Z : Type 0} where
  -- What was found.
  pub next_there : (m : Map K V Z) (path : List ℕ) (n : ℕ) → IsPlaceIn m path → length (before_pair_in m path) ≡ n → IsNextIn true m path n
  next_there m path n place e = (λ _. (place, e), λ z. absurd cc)

  pub last_there : (m : Map K V Z) (path : List ℕ) (n : ℕ) → IsPlaceIn m path → length (before_pair_in m path) + 1 ≡ n → IsLastIn true m path n
  last_there m path n place e = (λ _. (place, e), λ z. absurd cc)

  -- A path to a gap of a leaf has a step for each level.
  pub record IsOnTree (path : List ℕ) (root : Node K V Z) : Type 0 where
    pub some : 0 < length path
    pub levels : IsLevelled (length path - 1) root

  pub on_tree : (path : List ℕ) (root : Node K V Z) → IsTree root → IsLeafGap path root → IsOnTree path root
  on_tree path root t g =
      let e = g.1 t.0 t.2 in
      record { some = omega (arith, e); levels = subst (λ k. IsLevelled k root) (omega (arith, e)) t.2 }

  -- The gap of a leaf that has a pair after it is that pair's place.
  pub leaf_next : (path : List ℕ) (last h : ℕ) (n : Node K V Z) → IsLevelled h n → length path ≡ h + 1 → last + 1 ≡ length path → IsPath path n
      → get_or path last 0 < length (own_pairs (leaf_at path n)) → IsPlace path n × (length (before_pair path n) ≡ length (before_gap path n))
  leaf_next [] last h n l e s p k = absurd (omega arith)
  leaf_next (i ∷ []) zero zero n l e s p k = (k, leaf_before_own n i l k ∙ ap length (sym (append-nil (before_child n i))))
  leaf_next (i ∷ []) (suc last) h n l e s p k = absurd (omega arith)
  leaf_next (i ∷ []) zero (suc h) n l e s p k = absurd (omega arith)
  leaf_next (i ∷ j ∷ path) zero h n l e s p k = absurd (omega arith)
  leaf_next (i ∷ j ∷ path) (suc last) zero n l e s p k = absurd (omega arith)
  leaf_next (i ∷ j ∷ path) (suc last) (suc h) n l e s p k =
      let c = child_at n i in
      let r = leaf_next (j ∷ path) last h c (child_below h n i l p.0).1 (omega arith) (omega arith) p.1 k in
      let a = length-append (before_child n i) (before_pair (j ∷ path) c) in
      let b = length-append (before_child n i) (before_gap (j ∷ path) c) in
      ((omega arith, r.0), (let same = r.1 in omega (arith, a, b, same)))

  -- What a turn back comes to, by how many steps lead to the pair.
  pub turned_back : (root : Node K V Z) (gap path new : List ℕ) (last steps : ℕ) → gap ≡ path → IsLast gap root steps → last + 1 ≡ steps
      → new ≡ take last gap ++ (get_or gap last 0 - 1) ∷ [] → IsLastIn true (Some root) new (length (before_gap path root))
  turned_back root gap path new last steps e x s is =
      let r = place_back root gap new last steps x s is in
      last_there (Some root) new _ r.0 (r.1 ∙ ap (λ p. length (before_gap p root)) e)

  -- The way to the node of a pair.
  place_way : (path : List ℕ) (last : ℕ) (n : Node K V Z) → last + 1 ≡ length path → IsPlace path n
      → IsDescent (take last path) n × (get_or path last 0 < length (own_pairs (node_at (take last path) n)))
  place_way [] last n s p = absurd p
  place_way (i ∷ []) zero n s p = (tt, p)
  place_way (i ∷ []) (suc last) n s p = absurd (omega arith)
  place_way (i ∷ j ∷ path) zero n s p = absurd (omega arith)
  place_way (i ∷ j ∷ path) (suc last) n s p =
      let r = place_way (j ∷ path) last (child_at n i) (omega arith) p.1 in
      ((p.0, r.0), r.1)

  place_some : (path : List ℕ) (n : Node K V Z) → IsPlace path n → 0 < length path
  place_some [] n p = absurd p
  place_some (i ∷ path) n p = omega arith

  -- A path that ends at a pair of the node.
  pub record IsAtPair (path : List ℕ) (root node : Node K V Z) : Type 0 where
    pub some : 0 < length path
    pub way : LeadsTo path root (length path - 1) node
    pub own : get_or path (length path - 1) 0 < length (own_pairs node)
    pub levels : (g : ℕ) × IsLevelled g node × (length path + g ≤ most_levels)
    pub count : length (before_pair path root)
        ≡ length (before_gap (take (length path - 1) path) root) + length (before_own node (get_or path (length path - 1) 0))

  pub at_pair : (path : List ℕ) (root node : Node K V Z) → IsTree root → IsPlace path root → node ≡ leaf_at path root → IsAtPair path root node
  at_pair path root node t p e =
      let some = place_some path root p in
      let last = length path - 1 in
      let w = place_way path last root (omega arith) p in
      let here : node ≡ node_at (take last path) root = e ∙ leaf_node path last root (omega arith) in
      let d = descent_levels (take last path) t.0 root t.2 w.0 in
      let long = length_take last path (omega arith) in
      let both = ap length (ap (λ q. before_pair q root) (parted path last (omega arith)) ∙ before_own_more (take last path) (get_or path last 0) root) in
      let parts = length-append (before_gap (take last path) root) (before_own (node_at (take last path) root) (get_or path last 0)) in
      let own = ap (λ n. length (before_own n (get_or path last 0))) here in
      record {
        some = some;
        way = (omega arith, w.0, here);
        own = subst (λ n. get_or path last 0 < length (own_pairs n)) (sym here) w.1;
        levels = (d.0, subst (IsLevelled d.0) (sym here) d.2, (let high = t.1 in let deep = d.1 in omega (arith, long, high, deep)));
        count = both ∙ parts ∙ omega (arith, own);
      }

  -- A path goes over a pair of a node, by one step more at its end.
  pub record IsNextEdge (path new : List ℕ) (node : Node K V Z) (i : ℕ) : Type 0 where
    pub own : i < length (own_pairs node)
    pub is : new ≡ take (length path - 1) path ++ (i + 1) ∷ []
    pub child : (IsLeaf node → IsTrue false) → i + 1 < length (children_of node)
    pub count : length (before_child node (i + 1)) ≡ length (before_own node (get_or path (length path - 1) 0)) + 1

  pub next_edge : (path new : List ℕ) (h i : ℕ) (node : Node K V Z) → IsLevelled h node → 0 < length path → i ≡ get_or path (length path - 1) 0
      → get_or path (length path - 1) 0 < length (own_pairs node) → new ≡ slice_set path (length path - 1) (i + 1) → IsNextEdge path new node i
  next_edge path new h i node l some step own set =
      let here : i < length (own_pairs node) = omega (arith, step, own) in
      let next = next_before h node i l here in
      let same = ap (λ j. length (before_own node j)) step in
      record {
        own = here;
        is = end_set path new (length path - 1) (i + 1) (omega (arith, some)) set;
        child = λ not_leaf. child_there h node (i + 1) l not_leaf (omega (arith, here));
        count = omega (arith, next, same);
      }

  leaf_on : (lead rest : List ℕ) (n : Node K V Z) → 0 < length rest → leaf_at (lead ++ rest) n ≡ leaf_at rest (node_at lead n)
  leaf_on [] rest n k = refl
  leaf_on (i ∷ []) [] n k = absurd (omega arith)
  leaf_on (i ∷ []) (j ∷ rest) n k = refl
  leaf_on (i ∷ j ∷ lead) rest n k = leaf_on (j ∷ lead) rest (child_at n i) k

  -- The gap that a path goes on to from there, and its leaf.
  pub record IsGoneOn (path new : List ℕ) (root : Node K V Z) (count : ℕ) : Type 0 where
    pub slot : IsLeafGap new root
    pub count_is : length (before_gap new root) ≡ length (before_gap (take (length path - 1) path) root) + count

  along : (lead rest : List ℕ) (h : ℕ) (n : Node K V Z) → IsLevelled h n → IsDescent lead n → IsLeafGap rest (node_at lead n)
      → IsLeafGap (lead ++ rest) n × (length (before_gap (lead ++ rest) n) ≡ length (before_gap lead n) + length (before_gap rest (node_at lead n)))
  along [] rest h n l d w = (w, omega arith)
  along (i ∷ lead) rest h n l d w =
      let s = step_levels h n i l d.0 in
      let c = child_at n i in
      let r = along lead rest s.0 c s.2 d.1 w in
      let whole = length-append (before_child n i) (before_gap (lead ++ rest) c) in
      let part = length-append (before_child n i) (before_gap lead c) in
      let count = r.1 in
      let deep = r.0.1 s.0 s.2 in
      (((s.3, r.0.0), λ k m. let same = one_height k h n m l in omega arith), omega (arith, whole, part, count))

  pub gone : (path new : List ℕ) (root node : Node K V Z) (count : ℕ) → IsTree root → IsAtPair path root node
      → GoesOn (take (length path - 1) path) new node count → IsGoneOn path new root count
  gone path new root node count t a g =
      let lead = take (length path - 1) path in
      let r = along lead g.0 t.0 root t.2 a.way.1 (subst (IsLeafGap g.0) a.way.2 g.2) in
      let same = ap (λ m. length (before_gap g.0 m)) a.way.2 in
      let all = ap (λ p. length (before_gap p root)) g.1 in
      let below = g.3 in
      let sum = r.1 in
      record { slot = subst (λ p. IsLeafGap p root) (sym g.1) r.0; count_is = omega (arith, sum, below, same, all) }

  pub gone_leaf : (path new : List ℕ) (root node leaf : Node K V Z) (count : ℕ) → IsAtPair path root node
      → (g : GoesOn (take (length path - 1) path) new node count) → EndsIn (take (length path - 1) path) new node leaf → leaf ≡ leaf_at new root
  gone_leaf path new root node leaf count a g e =
      let long = g.2.1 a.levels.0 a.levels.1 in
      e g.0 g.1 ∙ ap (leaf_at g.0) a.way.2 ∙ sym (ap (λ q. leaf_at q root) g.1 ∙ leaf_on (take (length path - 1) path) g.0 root (omega (arith, long)))

-- How many pairs are below a key, and how many are not above it, by the path that a search for it takes.
module _ {K Q V Z : Type 0} (cmp : K → Q → Ordering) (k : Q) (path : List ℕ) (root : Node K V Z) (t : IsTree root) where
  pub found_counts : IsFound cmp k root path → (length (before_pair path root) ≡ length (below cmp (pairs_of root) k))
      × (length (before_pair path root) + 1 ≡ length (not_above cmp (pairs_of root) k))
  found_counts f =
      let c = place_pairs path t.0 root t.2 f.place in
      let equal : cmp c.pair.0 k ≡ Equal = subst (λ x. IfSome x (λ e. cmp e.0 k ≡ Equal)) c.is f.equal in
      let all = ap (λ s. not_above cmp s k) c.parts ∙ (pair_from cmp k _ _ c.pair f.before equal f.after).1 in (
        ap length (sym (found_at cmp k path t.0 root t.2 f).lower),
        sym (ap length all ∙ length-append (before_pair path root) (c.pair ∷ [])),
      )

  pub gap_counts : IsGap cmp k root path → (length (before_gap path root) ≡ length (below cmp (pairs_of root) k))
      × (length (before_gap path root) ≡ length (not_above cmp (pairs_of root) k))
  gap_counts f =
      let parts = gap_pairs path t.0 root t.2 (f.levels t.0 t.2) f.way in (
        ap length (sym (gap_at cmp k path t.0 root t.2 f).lower),
        ap length (sym (ap (λ s. not_above cmp s k) parts ∙ (gap_from cmp k _ _ f.front f.back).1)),
      )
