-- A node's pairs, cut at a child or at a pair of its own, and a tree's pairs, cut at the end of a path.
use Rattle.std.proofs.Common.{◌≡◌, ℕ, zero, suc, ◌+◌, ◌<◌, ◌≤◌, List, [], ◌∷◌, ◌++◌, length, map, take, drop, get_or, slice_get, Some, refl, sym, ap, ◌∙◌}
use Rattle.std.proofs.Common.{arith, append_assoc, append-nil}
use Rattle.std.proofs.lemmas.List.{length-map, map-append, length-drop}
use Rattle.fc_tree_node.specs.Weave.{weave, before_list, after_list}
use Rattle.fc_tree_node.specs.declared.node.Node.{Node}
use Rattle.fc_tree_node.specs.Node.{own_pairs, children_of, child_at, pairs_of, IsLeaf, IsInner, IsLevelled}
use Rattle.fc_tree_node.specs.Path.{IsPath, before_gap, after_gap}
use Rattle.fc_tree_node.specs.Place.{before_child, after_child, before_own, after_own, IsDescent, node_at, IsPlace, place_pair, before_pair, after_pair}
use Rattle.fc_tree_node.proofs.Lists.{take_nil, length_take, take_drop}
use Rattle.fc_tree_node.proofs.Weaves.{after_nil, weave_at, weave_parts}
use Rattle.fc_tree_node.proofs.Pairs.{pairs_is, leaf_children, leaf_pairs, child_below}

module _ {X : Type 0} where
  pub drop_item : (xs : List X) (i : ℕ) (d : X) → i < length xs → drop i xs ≡ get_or xs i d ∷ drop (suc i) xs
  drop_item [] i d h = absurd (omega arith)
  drop_item (x ∷ xs) zero d h = refl
  drop_item (x ∷ xs) (suc i) d h = drop_item xs i d (omega arith)

  pub take_item : (xs : List X) (i : ℕ) (d : X) → i < length xs → take (suc i) xs ≡ take i xs ++ get_or xs i d ∷ []
  take_item [] i d h = absurd (omega arith)
  take_item (x ∷ xs) zero d h = refl
  take_item (x ∷ xs) (suc i) d h = ap (λ zs. x ∷ zs) (take_item xs i d (omega arith))

  -- a list, cut at an item
  pub cut_item : (xs : List X) (i : ℕ) (d : X) → i < length xs → xs ≡ take i xs ++ get_or xs i d ∷ drop (suc i) xs
  cut_item xs i d h = sym (take_drop i xs) ∙ ap (λ zs. take i xs ++ zs) (drop_item xs i d h)

  pub drop_all : (xs : List X) (i : ℕ) → length xs ≤ i → drop i xs ≡ []
  drop_all [] zero h = refl
  drop_all [] (suc i) h = refl
  drop_all (x ∷ xs) zero h = absurd (omega arith)
  drop_all (x ∷ xs) (suc i) h = drop_all xs i (omega arith)

  pub item_there : (xs : List X) (i : ℕ) → i < length xs → (x : X) × ((d : X) → get_or xs i d ≡ x) × (slice_get xs i ≡ Some x)
  item_there [] i h = absurd (omega arith)
  item_there (x ∷ xs) zero h = (x, (λ d. refl), refl)
  item_there (x ∷ xs) (suc i) h = item_there xs i (omega arith)

  -- what follows an item
  after_item : (p : X) (qs : List X) (cs : List (List X)) → after_list (p ∷ qs) cs ≡ p ∷ weave cs qs
  after_item p qs [] = refl
  after_item p qs (c ∷ cs) = refl

  -- what is before the list after an item
  before_item : (cs : List (List X)) (ps : List X) (p : X) → length cs ≡ length ps + 1 → before_list cs (ps ++ p ∷ []) ≡ weave cs ps ++ p ∷ []
  before_item [] ps p e = absurd (omega arith)
  before_item (c ∷ []) [] p e = ap (λ zs. zs ++ p ∷ []) (sym (append-nil c))
  before_item (c ∷ []) (q ∷ ps) p e = absurd (omega arith)
  before_item (c ∷ d ∷ cs) [] p e = absurd (omega arith)
  before_item (c ∷ d ∷ cs) (q ∷ ps) p e = ap (λ zs. c ++ q ∷ zs) (before_item (d ∷ cs) ps p (omega arith))
      ∙ sym (append_assoc c (q ∷ weave (d ∷ cs) ps) (p ∷ []))

module _ {K V Z : Type 0} where
  abbrev lists : List (Node K V Z) → List (List (K × V))
  lists = map pairs_of

  -- a leaf's parts
  leaf_before_child : (n : Node K V Z) (i : ℕ) → children_of n ≡ [] → before_child n i ≡ take i (own_pairs n)
  leaf_before_child n i e = ap (λ cs. before_list (lists (take i cs)) (take i (own_pairs n))) e
      ∙ ap (λ cs. before_list (lists cs) (take i (own_pairs n))) (take_nil i)

  leaf_after_child : (n : Node K V Z) (i : ℕ) → children_of n ≡ [] → after_child n i ≡ drop i (own_pairs n)
  leaf_after_child n i e = ap (λ cs. after_list (drop i (own_pairs n)) (lists (drop (suc i) cs))) e ∙ after_nil (drop i (own_pairs n))

  -- a leaf's pairs are those that lead to a gap, and the rest
  pub leaf_gap : (n : Node K V Z) (i : ℕ) → IsLeaf n → pairs_of n ≡ before_child n i ++ after_child n i
  leaf_gap n i l =
      let e = leaf_children n l in
      leaf_pairs n l ∙ sym (take_drop i (own_pairs n)) ∙ ap (λ zs. zs ++ drop i (own_pairs n)) (sym (leaf_before_child n i e))
      ∙ ap (λ zs. before_child n i ++ zs) (sym (leaf_after_child n i e))

  lists_taken : (n : Node K V Z) (i : ℕ) → i ≤ length (children_of n) → length (lists (take i (children_of n))) ≡ i
  lists_taken n i h = length-map (take i (children_of n)) pairs_of ∙ length_take i (children_of n) h

  -- an inner node's pairs are those that lead to a child, the child's, and the rest
  pub inner_gap : (n : Node K V Z) (i : ℕ) → IsInner n → i ≤ length (own_pairs n)
      → pairs_of n ≡ before_child n i ++ (pairs_of (child_at n i) ++ after_child n i)
  inner_gap n i e h =
      let ps = own_pairs n in let cs = children_of n in
      let k : length cs ≡ length ps + 1 = e in
      let same : length (lists (take i cs)) ≡ length (take i ps) = lists_taken n i (omega arith) ∙ sym (length_take i ps h) in
      pairs_is n
      ∙ ap (λ qs. weave (lists cs) qs) (sym (take_drop i ps))
      ∙ ap (λ ds. weave (lists ds) (take i ps ++ drop i ps)) (cut_item cs i n (omega arith))
      ∙ ap (λ ds. weave ds (take i ps ++ drop i ps)) (map-append pairs_of (take i cs) (child_at n i ∷ drop (suc i) cs))
      ∙ weave_at (lists (take i cs)) (pairs_of (child_at n i)) (lists (drop (suc i) cs)) (take i ps) (drop i ps) same

  -- a leaf's pairs, cut at one of them
  leaf_pair : (n : Node K V Z) (i : ℕ) (d : K × V) → IsLeaf n → i < length (own_pairs n)
      → pairs_of n ≡ before_own n i ++ get_or (own_pairs n) i d ∷ after_own n i
  leaf_pair n i d l h =
      let ps = own_pairs n in let e = leaf_children n l in
      leaf_pairs n l ∙ cut_item ps i d h
      ∙ ap (λ cs. weave (lists (take (suc i) cs)) (take i ps) ++ get_or ps i d ∷ weave (lists (drop (suc i) cs)) (drop (suc i) ps)) (sym e)

  -- an inner node's pairs, cut at one of its own
  inner_pair : (n : Node K V Z) (i : ℕ) (d : K × V) → IsInner n → i < length (own_pairs n)
      → pairs_of n ≡ before_own n i ++ get_or (own_pairs n) i d ∷ after_own n i
  inner_pair n i d e h =
      let ps = own_pairs n in let cs = children_of n in
      let k : length cs ≡ length ps + 1 = e in
      let p = get_or ps i d in
      let m : length (lists (take (suc i) cs)) ≡ length (take i ps) + 1 =
      lists_taken n (suc i) (omega arith) ∙ let t = length_take i ps (omega arith) in omega arith in
      let r : 0 < length (lists (drop (suc i) cs)) = omega (arith, length-map (drop (suc i) cs) pairs_of, length-drop (suc i) cs) in
      pairs_is n
      ∙ ap (λ qs. weave (lists cs) qs) (cut_item ps i d h)
      ∙ ap (λ ds. weave (lists ds) (take i ps ++ p ∷ drop (suc i) ps)) (sym (take_drop (suc i) cs))
      ∙ ap (λ ds. weave ds (take i ps ++ p ∷ drop (suc i) ps)) (map-append pairs_of (take (suc i) cs) (drop (suc i) cs))
      ∙ weave_parts (lists (take (suc i) cs)) (lists (drop (suc i) cs)) (take i ps) p (drop (suc i) ps) m r

  -- a levelled node's pairs, cut at one of its own
  pub own_pair : (h : ℕ) (n : Node K V Z) (i : ℕ) (d : K × V) → IsLevelled h n → i < length (own_pairs n)
      → pairs_of n ≡ before_own n i ++ get_or (own_pairs n) i d ∷ after_own n i
  own_pair zero n i d l k = leaf_pair n i d l.1 k
  own_pair (suc h) n i d l k = inner_pair n i d l.1 k

  -- what leads to the child after a pair ends with the pair
  pub before_child_pair : (h : ℕ) (n : Node K V Z) (i : ℕ) (d : K × V) → IsLevelled h n → i < length (own_pairs n)
      → before_child n (suc i) ≡ before_own n i ++ get_or (own_pairs n) i d ∷ []
  before_child_pair zero n i d l k =
      let e = leaf_children n l.1 in
      leaf_before_child n (suc i) e ∙ take_item (own_pairs n) i d k ∙ ap
      (λ cs. weave (lists (take (suc i) cs)) (take i (own_pairs n)) ++ get_or (own_pairs n) i d ∷ []) (sym e)
  before_child_pair (suc h) n i d l k =
      let ps = own_pairs n in let cs = children_of n in
      let m : length (lists (take (suc i) cs)) ≡ length (take i ps) + 1 =
      lists_taken n (suc i) (omega arith) ∙ let t = length_take i ps (omega arith) in omega arith in
      ap (λ qs. before_list (lists (take (suc i) cs)) qs) (take_item ps i d k) ∙ before_item (lists (take (suc i) cs)) (take i ps) (get_or ps i d) m

  -- what is after a child begins with the next pair
  pub after_child_pair : (n : Node K V Z) (i : ℕ) (d : K × V) → i < length (own_pairs n) → after_child n i ≡ get_or (own_pairs n) i d ∷ after_own n i
  after_child_pair n i d k =
      ap (λ qs. after_list qs (lists (drop (suc i) (children_of n)))) (drop_item (own_pairs n) i d k)
      ∙ after_item (get_or (own_pairs n) i d) (drop (suc i) (own_pairs n)) (lists (drop (suc i) (children_of n)))

  -- nothing is after the last child
  pub after_none : (n : Node K V Z) (i : ℕ) → length (own_pairs n) ≤ i → after_child n i ≡ []
  after_none n i h = ap (λ qs. after_list qs (lists (drop (suc i) (children_of n)))) (drop_all (own_pairs n) i h)

  -- a step down a levelled node
  pub step_levels : (h : ℕ) (n : Node K V Z) (i : ℕ) → IsLevelled h n → i < length (children_of n)
      → (g : ℕ) × (h ≡ suc g) × IsLevelled g (child_at n i) × (i ≤ length (own_pairs n)) × IsInner n
  step_levels zero n i l k = absurd (let e : length (children_of n) ≡ 0 = ap length (leaf_children n l.1) in omega arith)
  step_levels (suc h) n i l k =
      let le : i ≤ length (own_pairs n) = omega arith in
      (h, refl, (child_below h n i l le).1, le, l.1)

  -- the levels below the end of a descent
  pub descent_levels : (path : List ℕ) (h : ℕ) (n : Node K V Z) → IsLevelled h n → IsDescent path n
      → (g : ℕ) × (length path + g ≡ h) × IsLevelled g (node_at path n)
  descent_levels [] h n l d = (h, omega arith, l)
  descent_levels (i ∷ path) h n l d =
      let s = step_levels h n i l d.0 in
      let r = descent_levels path s.0 (child_at n i) s.2 d.1 in
      (r.0, (omega arith), r.2)

  -- a tree's pairs, cut at the node that a descent leads to
  pub descent_pairs : (path : List ℕ) (h : ℕ) (n : Node K V Z) → IsLevelled h n → IsDescent path n
      → pairs_of n ≡ before_gap path n ++ (pairs_of (node_at path n) ++ after_gap path n)
  descent_pairs [] h n l d = sym (append-nil (pairs_of n))
  descent_pairs (i ∷ path) h n l d =
      let s = step_levels h n i l d.0 in
      let c = child_at n i in
      let r = descent_pairs path s.0 c s.2 d.1 in
      inner_gap n i s.4 s.3 ∙ ap (λ zs. before_child n i ++ (zs ++ after_child n i)) r
      ∙ regroup (before_child n i) (before_gap path c) (pairs_of (node_at path c)) (after_gap path c) (after_child n i)
    where
      regroup : (a b m c d : List (K × V)) → a ++ ((b ++ (m ++ c)) ++ d) ≡ (a ++ b) ++ (m ++ (c ++ d))
      regroup a b m c d = simp append_assoc

  -- a descent goes on by one step
  pub node_more : (path : List ℕ) (i : ℕ) (n : Node K V Z) → node_at (path ++ i ∷ []) n ≡ child_at (node_at path n) i
  node_more [] i n = refl
  node_more (j ∷ path) i n = node_more path i (child_at n j)

  pub descent_more : (path : List ℕ) (i : ℕ) (n : Node K V Z) → IsDescent path n → i < length (children_of (node_at path n)) → IsDescent (path ++ i ∷ []) n
  descent_more [] i n d k = (k, tt)
  descent_more (j ∷ path) i n d k = (d.0, descent_more path i (child_at n j) d.1 k)

  -- what is before and after the gap that one more step leads to
  pub before_more : (path : List ℕ) (i : ℕ) (n : Node K V Z) → before_gap (path ++ i ∷ []) n ≡ before_gap path n ++ before_child (node_at path n) i
  before_more [] i n = append-nil (before_child n i)
  before_more (j ∷ path) i n = ap (λ zs. before_child n j ++ zs) (before_more path i (child_at n j))
      ∙ sym (append_assoc (before_child n j) (before_gap path (child_at n j)) _)

  pub after_more : (path : List ℕ) (i : ℕ) (n : Node K V Z) → after_gap (path ++ i ∷ []) n ≡ after_child (node_at path n) i ++ after_gap path n
  after_more [] i n = sym (append-nil (after_child n i))
  after_more (j ∷ path) i n = ap (λ zs. zs ++ after_child n j) (after_more path i (child_at n j))
      ∙ append_assoc (after_child (node_at path (child_at n j)) i) (after_gap path (child_at n j)) (after_child n j)

  pub path_more : (path : List ℕ) (i h : ℕ) (n : Node K V Z) → IsLevelled h n → IsDescent path n → i ≤ length (own_pairs (node_at path n))
      → IsPath (path ++ i ∷ []) n
  path_more [] i h n l d k = (k, tt)
  path_more (j ∷ path) i h n l d k = let s = step_levels h n j l d.0 in (s.3, path_more path i s.0 (child_at n j) s.2 d.1 k)

  -- the pair that one more step leads to
  pub place_more : (path : List ℕ) (i : ℕ) (n : Node K V Z) → IsDescent path n → i < length (own_pairs (node_at path n)) → IsPlace (path ++ i ∷ []) n
  place_more [] i n d k = k
  place_more (j ∷ []) i n d k = (d.0, k)
  place_more (j ∷ j' ∷ path) i n d k = (d.0, place_more (j' ∷ path) i (child_at n j) d.1 k)

  pub pair_more : (path : List ℕ) (i : ℕ) (n : Node K V Z) → place_pair (path ++ i ∷ []) n ≡ slice_get (own_pairs (node_at path n)) i
  pair_more [] i n = refl
  pair_more (j ∷ []) i n = refl
  pair_more (j ∷ j' ∷ path) i n = pair_more (j' ∷ path) i (child_at n j)

  pub before_own_more : (path : List ℕ) (i : ℕ) (n : Node K V Z) → before_pair (path ++ i ∷ []) n ≡ before_gap path n ++ before_own (node_at path n) i
  before_own_more [] i n = refl
  before_own_more (j ∷ []) i n = ap (λ zs. zs ++ before_own (child_at n j) i) (sym (append-nil (before_child n j)))
  before_own_more (j ∷ j' ∷ path) i n = ap (λ zs. before_child n j ++ zs) (before_own_more (j' ∷ path) i (child_at n j))
      ∙ sym (append_assoc (before_child n j) (before_gap (j' ∷ path) (child_at n j)) _)

  pub after_own_more : (path : List ℕ) (i : ℕ) (n : Node K V Z) → after_pair (path ++ i ∷ []) n ≡ after_own (node_at path n) i ++ after_gap path n
  after_own_more [] i n = sym (append-nil (after_own n i))
  after_own_more (j ∷ []) i n = refl
  after_own_more (j ∷ j' ∷ path) i n = ap (λ zs. zs ++ after_child n j) (after_own_more (j' ∷ path) i (child_at n j))
      ∙ append_assoc (after_own (node_at (j' ∷ path) (child_at n j)) i) (after_gap (j' ∷ path) (child_at n j)) (after_child n j)

  -- a tree's pairs are those before and those after the gap that a path to a leaf leads to
  pub gap_pairs : (path : List ℕ) (h : ℕ) (n : Node K V Z) → IsLevelled h n → length path ≡ h + 1 → IsPath path n
      → pairs_of n ≡ before_gap path n ++ after_gap path n
  gap_pairs [] h n l e p = absurd (omega arith)
  gap_pairs (i ∷ path) zero n l e p =
      let none : path ≡ [] = no_items path (omega arith) in
      leaf_gap n i l.1 ∙ ap (λ zs. zs ++ after_child n i) (sym (append-nil (before_child n i)))
      ∙ ap (λ q. (before_child n i ++ before_gap q (child_at n i)) ++ (after_gap q (child_at n i) ++ after_child n i)) (sym none)
    where
      no_items : (q : List ℕ) → length q ≡ 0 → q ≡ []
      no_items [] e = refl
      no_items (x ∷ q) e = absurd (omega arith)
  gap_pairs (i ∷ path) (suc h) n l e p =
      let c = child_at n i in
      let r = gap_pairs path h c (child_below h n i l p.0).1 (omega arith) p.1 in
      inner_gap n i l.1 p.0 ∙ ap (λ zs. before_child n i ++ (zs ++ after_child n i)) r
      ∙ regroup (before_child n i) (before_gap path c) (after_gap path c) (after_child n i)
    where
      regroup : (a b c d : List (K × V)) → a ++ ((b ++ c) ++ d) ≡ (a ++ b) ++ (c ++ d)
      regroup a b c d = simp append_assoc

  -- there is a pair at a place, and a tree's pairs are those before it, it, and those after it
  pub record IsCutAt (path : List ℕ) (n : Node K V Z) : Type 0 where
    pub pair : K × V
    pub is : place_pair path n ≡ Some pair
    pub parts : pairs_of n ≡ before_pair path n ++ pair ∷ after_pair path n

  pub place_pairs : (path : List ℕ) (h : ℕ) (n : Node K V Z) → IsLevelled h n → IsPlace path n → IsCutAt path n
  place_pairs [] h n l p = absurd p
  place_pairs (i ∷ []) h n l p =
      let t = item_there (own_pairs n) i p in
      record { pair = t.0; is = t.2; parts = own_pair h n i t.0 l p ∙ ap (λ x. before_own n i ++ x ∷ after_own n i) (t.1 t.0) }
  place_pairs (i ∷ j ∷ path) h n l p =
      let s = step_levels h n i l p.0 in
      let r = place_pairs (j ∷ path) s.0 (child_at n i) s.2 p.1 in
      record {
        pair = r.pair;
        is = r.is;
        parts = inner_gap n i s.4 s.3 ∙ ap (λ zs. before_child n i ++ (zs ++ after_child n i)) r.parts
            ∙ regroup (before_child n i) (before_pair (j ∷ path) (child_at n i)) (after_pair (j ∷ path) (child_at n i)) (after_child n i) r.pair;
      }
    where
      regroup : (a b c d : List (K × V)) (x : K × V) → a ++ ((b ++ x ∷ c) ++ d) ≡ (a ++ b) ++ x ∷ (c ++ d)
      regroup a b c d x = simp append_assoc
