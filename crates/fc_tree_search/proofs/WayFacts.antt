-- The path that a search takes, by the place that it comes to in a node.
use Rattle.std.proofs.Common.{◌≡◌, ℕ, zero, suc, ◌<◌, List, [], ◌∷◌, ◌++◌, length, map, take, drop, get_or, Option, Some, None, refl, sym, ap, subst, ◌∙◌}
use Rattle.std.proofs.Common.{arith, append_assoc, append-nil}
use Rattle.std.specs.declared.cmp.Ordering.{Ordering}
use Rattle.std.specs.declared.cmp.Ordering.TheVariants.{Equal}
use Rattle.fc_base.specs.Ascending.{IsAscending}
use Rattle.fc_base.specs.Query.{IsQueryOrder}
use Rattle.fc_tree_node.specs.declared.node.Node.{Node, out-Node, map-Node, fold_out-Node}
use Rattle.fc_tree_node.specs.Node.{items_or_none, own_pairs, children_of, child_at, pairs_of, IsLeaf}
use Rattle.fc_tree_search.specs.Passed.{lower_count}
use Rattle.fc_tree_search.specs.Way.{onward, way_step, path_to}
use Rattle.fc_tree_search.specs.Found.{AllBelow, AllAbove, IsFoundAt, IsGapAt}
use Rattle.fc_tree_node.proofs.Lists.{length_take, take_drop}
use Rattle.fc_tree_node.proofs.Pairs.{leaf_children}
use Rattle.fc_tree_search.proofs.Ordered.{sides_equal}
use Rattle.fc_tree_node.proofs.Gaps.{cut_item, item_there}
use Rattle.fc_tree_search.proofs.PassedFacts.{after_lower, after_equal, upper_none, own_ascending, upper_rest}
use Rattle.fc_tree_search.proofs.SearchFacts.{IsSearch, way_ascending}

module _ {K Q V : Type 0} (cmp : K → Q → Ordering) (k : Q) where
  -- the path in a node of these pairs, with the path in each child
  abbrev way_in : List (K × V) → List (List ℕ) → List ℕ
  way_in s paths = lower_count cmp k s ∷ onward cmp k s paths

  module _ {Z : Type 0} where
    folded : (ps : List (K × V)) (o : Option (List (Node K V Z)))
        → way_step cmp k (map-Node K V Z (Node K V Z) (List ℕ) (path_to cmp k) (record { pairs = ps; children = o }))
        ≡ way_in ps (map (path_to cmp k) (items_or_none o))
    folded ps None = refl
    folded ps (Some cs) = refl

    path_is : (n : Node K V Z) → path_to cmp k n ≡ way_in (own_pairs n) (map (path_to cmp k) (children_of n))
    path_is n = fold_out-Node K V Z (List ℕ) (way_step cmp k) n ∙ folded (own_pairs n) (out-Node K V Z n).children

  -- at a key that is equal to k
  way_equal : (L R : List (K × V)) (p : K × V) (paths : List (List ℕ)) → AllBelow cmp k L → cmp p.0 k ≡ Equal → AllAbove cmp k R
      → way_in (L ++ p ∷ R) paths ≡ length L ∷ []
  way_equal L R p paths a e b =
      let l : lower_count cmp k (p ∷ R) ≡ 0 = rw e (upper_none cmp k R b).0 in
      let i : lower_count cmp k (L ++ p ∷ R) ≡ length L = let x = after_lower cmp k L (p ∷ R) [] a in omega arith in
      let d : onward cmp k (L ++ p ∷ R) paths ≡ [] = rw (after_equal cmp k L (p ∷ R) a) (rw e refl) in
      ap (λ q. lower_count cmp k (L ++ p ∷ R) ∷ q) d ∙ ap (λ j. j ∷ []) i

  -- at a gap, the path in the child there goes on
  way_between : (L R : List (K × V)) (paths : List (List ℕ)) → AllBelow cmp k L → AllAbove cmp k R
      → way_in (L ++ R) paths ≡ length L ∷ get_or paths (length L) []
  way_between L R paths a b =
      let n = upper_none cmp k R b in
      let i : lower_count cmp k (L ++ R) ≡ length L = let x = after_lower cmp k L R [] a in omega arith in
      let d : onward cmp k (L ++ R) paths ≡ get_or paths (length L) [] = rw (after_equal cmp k L R a) (rw n.1 (ap (λ j. get_or paths j []) i)) in
      ap (λ q. lower_count cmp k (L ++ R) ∷ q) d ∙ ap (λ j. j ∷ get_or paths (length L) []) i

module _ {K Q V Z : Type 0} {own : K → K → Ordering} {cmp : K → Q → Ordering} (o : IsQueryOrder own cmp) (k : Q) where
  -- the path ends at a key that is equal to k
  pub path_found : (n : Node K V Z) (i : ℕ) → IsAscending own (pairs_of n) → IsFoundAt cmp k (own_pairs n) i → path_to cmp k n ≡ i ∷ []
  path_found n i a f =
      let s = own_pairs n in
      let t = item_there s i f.0 in
      let p = get_or s i t.0 in
      let cut = cut_item s i t.0 f.0 in
      let e = f.2 t.0 in
      let sides = sides_equal o k (take i s) (drop (suc i) s) p (subst (IsAscending own) cut (own_ascending own n a)) e in
      let paths = map (path_to cmp k) (children_of n) in
      path_is cmp k n ∙ ap (λ ps. way_in cmp k ps paths) cut ∙ way_equal cmp k (take i s) (drop (suc i) s) p paths f.1 e sides.1
      ∙ ap (λ j. j ∷ []) (length_take i s (omega (arith, f.0)))

  path_gap : (n : Node K V Z) (i : ℕ) → IsAscending own (pairs_of n) → IsGapAt cmp k (own_pairs n) i
      → path_to cmp k n ≡ i ∷ get_or (map (path_to cmp k) (children_of n)) i []
  path_gap n i a f =
      let s = own_pairs n in
      let paths = map (path_to cmp k) (children_of n) in
      path_is cmp k n ∙ ap (λ ps. way_in cmp k ps paths) (sym (take_drop i s))
      ∙ way_between cmp k (take i s) (drop i s) paths f.1 (upper_rest o k s i (own_ascending own n a) f)
      ∙ ap (λ j. j ∷ get_or paths j []) (length_take i s f.0)

  path_there : (cs : List (Node K V Z)) (i : ℕ) (n : Node K V Z) → i < length cs → get_or (map (path_to cmp k) cs) i [] ≡ path_to cmp k (get_or cs i n)
  path_there [] i n h = absurd (omega arith)
  path_there (c ∷ cs) zero n h = refl
  path_there (c ∷ cs) (suc i) n h = path_there cs i n (omega arith)

  -- from a gap into the child there
  pub path_down : (n c : Node K V Z) (i : ℕ) → IsAscending own (pairs_of n) → IsGapAt cmp k (own_pairs n) i → i < length (children_of n) → c ≡ child_at n i
      → path_to cmp k n ≡ i ∷ path_to cmp k c
  path_down n c i a f h e = path_gap n i a f ∙ ap (λ q. i ∷ q) (path_there (children_of n) i n h ∙ ap (path_to cmp k) (sym e))

  -- the path ends at a gap in a leaf
  pub path_leaf : (n : Node K V Z) (i : ℕ) → IsAscending own (pairs_of n) → IsGapAt cmp k (own_pairs n) i → IsLeaf n → path_to cmp k n ≡ i ∷ []
  path_leaf n i a f l = path_gap n i a f ∙ ap (λ cs. i ∷ get_or (map (path_to cmp k) cs) i []) (leaf_children n l)

-- a descent along the path
module _ {K Q V Z : Type 0} {own : K → K → Ordering} {cmp : K → Q → Ordering} {k : Q} {root node : Node K V Z} {path : List ℕ}
    (on : IsSearch own cmp k root node path) (q : path_to cmp k root ≡ path ++ path_to cmp k node) where
  ascending : IsAscending own (pairs_of node)
  ascending = way_ascending cmp k own on.levels on.order on.way

  grown : (i : ℕ) (more rest : List ℕ) → more ≡ path ++ i ∷ [] → path_to cmp k node ≡ i ∷ rest → path_to cmp k root ≡ more ++ rest
  grown i more rest e f = q ∙ ap (λ p. path ++ p) f ∙ sym (append_assoc path (i ∷ []) rest) ∙ ap (λ p. p ++ rest) (sym e)

  -- it ends at a pair of the node
  pub path_ends : (i : ℕ) (more : List ℕ) → more ≡ path ++ i ∷ [] → IsFoundAt cmp k (own_pairs node) i → more ≡ path_to cmp k root
  path_ends i more e f = sym (grown i more [] e (path_found on.fits k node i ascending f) ∙ append-nil more)

  -- it ends at a gap of a leaf
  pub path_ends_leaf : (i : ℕ) (more : List ℕ) → more ≡ path ++ i ∷ [] → IsGapAt cmp k (own_pairs node) i → IsLeaf node → more ≡ path_to cmp k root
  path_ends_leaf i more e f leaf = sym (grown i more [] e (path_leaf on.fits k node i ascending f leaf) ∙ append-nil more)

  -- it goes on in a child
  pub path_goes_on : (i : ℕ) (child : Node K V Z) (more : List ℕ) → more ≡ path ++ i ∷ [] → IsGapAt cmp k (own_pairs node) i → i < length (children_of node)
      → child ≡ child_at node i → path_to cmp k root ≡ more ++ path_to cmp k child
  path_goes_on i child more e f lt c = grown i more (path_to cmp k child) e (path_down on.fits k node child i ascending f lt c)
