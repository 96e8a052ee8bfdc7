-- How many keys a search passes, by the place that it comes to in a node.
use Rattle.std.proofs.Common.{◌≡◌, ℕ, zero, suc, ◌+◌, ◌*◌, ◌<◌, ◌≤◌, List, [], ◌∷◌, ◌++◌, length, map, take, drop, get_or, Option, Some, None, refl, sym, ap}
use Rattle.std.proofs.Common.{subst, ◌∙◌, arith}
use Rattle.std.specs.Prelude.{Bool, true, false, cond, min, not, ◌||◌, slice_index}
use Rattle.std.specs.List.{list_any}
use Rattle.std.specs.List.{AllByRecursion}
use Rattle.std.specs.Ordering.{is_lt, is_eq}
use Rattle.std.specs.declared.cmp.Ordering.{Ordering}
use Rattle.std.specs.declared.cmp.Ordering.TheVariants.{Less, Equal}
use Rattle.fc_base.specs.Ascending.{IsAscending}
use Rattle.fc_base.specs.Parts.{below}
use Rattle.fc_base.specs.Query.{IsQueryOrder}
use Rattle.fc_base.specs.Sizes.{min_len, level_comparisons}
use Rattle.fc_tree_node.specs.Weave.{weave, after_list}
use Rattle.fc_tree_node.specs.declared.node.Node.{Node, out-Node, map-Node, fold_out-Node}
use Rattle.fc_tree_node.specs.Node.{items_or_none, own_pairs, children_of, child_at, pairs_of, IsLeaf, IsLevelled}
use Rattle.fc_tree_search.specs.Passed.{lower_count, stop_count, down_count, passed_step, passed}
use Rattle.fc_tree_search.specs.Found.{AllBelow, AllAbove, IsFoundAt, IsGapAt}
use Rattle.fc_tree_node.proofs.Lists.{all_back, length_take, take_drop}
use Rattle.fc_tree_node.proofs.Pairs.{pairs_is, leaf_children}
use Rattle.fc_base.proofs.Laws.{ascending_back}
use Rattle.fc_tree_search.proofs.Ordered.{sides_equal, side_upper}
use Rattle.fc_tree_node.proofs.Gaps.{cut_item, item_there}

module _ {K Q V : Type 0} (cmp : K → Q → Ordering) (k : Q) where
  -- what is passed in a node of these pairs, with what is passed in each child
  abbrev pub passed_in : List (K × V) → List ℕ → ℕ
  passed_in s ns = lower_count cmp k s + stop_count cmp k s + down_count cmp k s ns

  module _ {Z : Type 0} where
    folded : (ps : List (K × V)) (o : Option (List (Node K V Z)))
        → passed_step cmp k (map-Node K V Z (Node K V Z) ℕ (passed cmp k) (record { pairs = ps; children = o })) ≡ passed_in ps
        (map (passed cmp k) (items_or_none o))
    folded ps None = refl
    folded ps (Some cs) = refl

    pub passed_is : (n : Node K V Z) → passed cmp k n ≡ passed_in (own_pairs n) (map (passed cmp k) (children_of n))
    passed_is n = fold_out-Node K V Z ℕ (passed_step cmp k) n ∙ folded (own_pairs n) (out-Node K V Z n).children

  -- keys below k are counted, and stop nothing
  pub after_lower : (L s : List (K × V)) (ns : List ℕ) → AllBelow cmp k L → lower_count cmp k (L ++ s) ≡ length L + lower_count cmp k s
  after_lower [] s ns a = omega arith
  after_lower (e ∷ L) s ns a = rw a.0 (let i = after_lower L s ns a.1 in omega arith)

  after_stop : (L s : List (K × V)) → AllBelow cmp k L → stop_count cmp k (L ++ s) ≡ stop_count cmp k s
  after_stop [] s a = refl
  after_stop (e ∷ L) s a = rw a.0 (after_stop L s a.1)

  pub after_equal : (L s : List (K × V)) → AllBelow cmp k L → list_any (λ e. is_eq (cmp e.0 k)) (L ++ s) ≡ list_any (λ e. is_eq (cmp e.0 k)) s
  after_equal [] s a = refl
  after_equal (e ∷ L) s a = rw a.0 (after_equal L s a.1)

  -- keys above k are neither below it nor equal to it
  pub upper_none : (R : List (K × V)) → AllAbove cmp k R → (lower_count cmp k R ≡ 0)
      × (list_any (λ e. is_eq (cmp e.0 k)) R ≡ list_any (λ (e : K × V). is_eq (cmp e.0 k)) [])
  upper_none [] a = (refl, refl)
  upper_none (e ∷ R) a = let i = upper_none R a.1 in (rw a.0 i.0, rw a.0 i.1)

  -- at a key that is equal to k
  passed_equal : (L R : List (K × V)) (p : K × V) (ns : List ℕ) → AllBelow cmp k L → cmp p.0 k ≡ Equal → AllAbove cmp k R
      → passed_in (L ++ p ∷ R) ns ≡ length L + 1
  passed_equal L R p ns a e b =
      let l : lower_count cmp k (p ∷ R) ≡ 0 = rw e (upper_none R b).0 in
      let s : stop_count cmp k (p ∷ R) ≡ 1 = rw e refl in
      let d : down_count cmp k (L ++ p ∷ R) ns ≡ 0 = rw (after_equal L (p ∷ R) a) (rw e refl) in
      let l₁ = after_lower L (p ∷ R) ns a in
      let s₁ = after_stop L (p ∷ R) a in
      omega arith

  -- at a gap, what is passed in the child there counts
  passed_between : (L R : List (K × V)) (ns : List ℕ) → AllBelow cmp k L → AllAbove cmp k R
      → passed_in (L ++ R) ns ≡ length L + stop_count cmp k R + slice_index ns (length L)
  passed_between L R ns a b =
      let n = upper_none R b in
      let l : lower_count cmp k (L ++ R) ≡ length L = let x = after_lower L R ns a in omega arith in
      let s = after_stop L R a in
      let d : down_count cmp k (L ++ R) ns ≡ slice_index ns (length L) = rw (after_equal L R a) (rw n.1 (ap (λ i. slice_index ns i) l)) in
      omega arith

  -- some key is not below k
  stop_upper : (R : List (K × V)) → AllAbove cmp k R → stop_count cmp k R ≡ min (length R) 1
  stop_upper [] a = refl
  stop_upper (e ∷ R) a = rw a.0 (omega arith)

-- a node's own pairs are in order
module _ {K V : Type 0} (cmp : K → K → Ordering) where
  own_all : (P : K × V → Type 0) (ps : List (K × V)) (cs : List (List (K × V))) → AllByRecursion P (after_list ps cs) → AllByRecursion P ps
  own_all P [] cs a = tt
  own_all P (p ∷ ps) [] a = a
  own_all P (p ∷ ps) (c ∷ cs) a = (a.0, own_all P ps cs (all_back P c (after_list ps cs) a.1))

  own_after : (ps : List (K × V)) (cs : List (List (K × V))) → IsAscending cmp (after_list ps cs) → IsAscending cmp ps
  own_after [] cs a = tt
  own_after (p ∷ ps) [] a = a
  own_after (p ∷ ps) (c ∷ cs) a = (
    own_all (λ e. cmp p.0 e.0 ≡ Less) ps cs (all_back (λ e. cmp p.0 e.0 ≡ Less) c (after_list ps cs) a.0),
    own_after ps cs (ascending_back cmp c (after_list ps cs) a.1),
  )

  own_woven : (cs : List (List (K × V))) (ps : List (K × V)) → IsAscending cmp (weave cs ps) → IsAscending cmp ps
  own_woven [] ps a = a
  own_woven (c ∷ cs) ps a = own_after ps cs (ascending_back cmp c (after_list ps cs) a)

  module _ {Z : Type 0} where
    pub own_ascending : (n : Node K V Z) → IsAscending cmp (pairs_of n) → IsAscending cmp (own_pairs n)
    own_ascending n a = own_woven (map pairs_of (children_of n)) (own_pairs n) (subst (IsAscending cmp) (pairs_is n) a)

module _ {K Q V : Type 0} {own : K → K → Ordering} {cmp : K → Q → Ordering} (o : IsQueryOrder own cmp) (k : Q) where
  module _ {Z : Type 0} where
    -- a search that finds the key in the node
    pub passed_found : (n : Node K V Z) (i : ℕ) → IsAscending own (pairs_of n) → IsFoundAt cmp k (own_pairs n) i → passed cmp k n ≡ i + 1
    passed_found n i a f =
        let s = own_pairs n in
        let t = item_there s i f.0 in
        let p = get_or s i t.0 in
        let cut = cut_item s i t.0 f.0 in
        let e = f.2 t.0 in
        let sides = sides_equal o k (take i s) (drop (suc i) s) p (subst (IsAscending own) cut (own_ascending own n a)) e in
        let ns = map (passed cmp k) (children_of n) in
        passed_is cmp k n ∙ ap (λ ps. passed_in cmp k ps ns) cut ∙ passed_equal cmp k (take i s) (drop (suc i) s) p ns f.1 e sides.1
        ∙ ap (λ j. j + 1) (length_take i s (omega (arith, f.0)))

  pub upper_rest : (s : List (K × V)) (i : ℕ) → IsAscending own s → IsGapAt cmp k s i → AllAbove cmp k (drop i s)
  upper_rest [] zero a f = tt
  upper_rest [] (suc i) a f = tt
  upper_rest (e ∷ s) zero a f = side_upper o k [] s e a (f.2 e (omega arith))
  upper_rest (e ∷ s) (suc i) a f = upper_rest s i a.1 (omega (arith, f.0), f.1.1, λ d h. f.2 d (omega arith))

  module _ {Z : Type 0} where
    -- a search that goes on from a gap in the node
    pub passed_gap : (n : Node K V Z) (i : ℕ) → IsAscending own (pairs_of n) → IsGapAt cmp k (own_pairs n) i
        → passed cmp k n ≡ min (i + 1) (length (own_pairs n)) + slice_index (map (passed cmp k) (children_of n)) i
    passed_gap n i a f =
        let s = own_pairs n in
        let ns = map (passed cmp k) (children_of n) in
        let b = upper_rest s i (own_ascending own n a) f in
        let t = length_take i s f.0 in
        let x = passed_between cmp k (take i s) (drop i s) ns f.1 b in
        let y = stop_upper cmp k (drop i s) b in
        let z : length (drop i s) + i ≡ length s = dropped s i f.0 in
        let w : slice_index ns (length (take i s)) ≡ slice_index ns i = ap (λ j. slice_index ns j) t in
        passed_is cmp k n ∙ ap (λ ps. passed_in cmp k ps ns) (sym (take_drop i s)) ∙ x ∙ omega arith
      where
        dropped : (xs : List (K × V)) (i : ℕ) → i ≤ length xs → length (drop i xs) + i ≡ length xs
        dropped xs zero h = omega arith
        dropped [] (suc i) h = absurd (omega arith)
        dropped (x ∷ xs) (suc i) h = let r = dropped xs i (omega arith) in omega arith

    count_there : (cs : List (Node K V Z)) (i : ℕ) (n : Node K V Z) → i < length cs → slice_index (map (passed cmp k) cs) i ≡ passed cmp k (get_or cs i n)
    count_there [] i n h = absurd (omega arith)
    count_there (c ∷ cs) zero n h = refl
    count_there (c ∷ cs) (suc i) n h = count_there cs i n (omega arith)

    -- from a gap into the child there
    pub passed_down : (n c : Node K V Z) (i : ℕ) → IsAscending own (pairs_of n) → IsGapAt cmp k (own_pairs n) i → i < length (children_of n) → c ≡ child_at n i
        → passed cmp k n ≡ min (i + 1) (length (own_pairs n)) + passed cmp k c
    passed_down n c i a f h e =
        passed_gap n i a f ∙ ap (λ m. min (i + 1) (length (own_pairs n)) + m) (count_there (children_of n) i n h ∙ ap (passed cmp k) (sym e))

    -- at a gap in a leaf
    pub passed_leaf : (n : Node K V Z) (i : ℕ) → IsAscending own (pairs_of n) → IsGapAt cmp k (own_pairs n) i → IsLeaf n
        → passed cmp k n ≡ min (i + 1) (length (own_pairs n))
    passed_leaf n i a f l =
        let none : slice_index (map (passed cmp k) (children_of n)) i ≡ 0 = ap (λ cs. slice_index (map (passed cmp k) cs) i) (leaf_children n l) in
        let g = passed_gap n i a f in
        omega arith

one_key : {X : Type 0} (lower others : Bool) (x : X) (ls : List X) (n : ℕ) → length ls + cond others 1 0 ≤ n
    → length (cond lower (x ∷ ls) ls) + cond (not lower || others) 1 0 ≤ suc n
one_key true others x ls n h = omega (arith, h)
one_key false others x ls n h = omega (arith, h)

if_down : (equal : Bool) (d m : ℕ) → d ≤ m → cond equal 0 d ≤ m
if_down true d m h = omega arith
if_down false d m h = h

-- at most as many keys are passed a level as it has
module _ {K Q V : Type 0} (cmp : K → Q → Ordering) (k : Q) where
  few_own : (s : List (K × V)) → lower_count cmp k s + stop_count cmp k s ≤ length s
  few_own [] = omega arith
  few_own (e ∷ s) = one_key (is_lt (cmp e.0 k)) (list_any (λ e. not (is_lt (cmp e.0 k))) s) e (below cmp s k) (length s) (few_own s)

  module _ {Z : Type 0} where
    few_at : (cs : List (Node K V Z)) (i m : ℕ) → AllByRecursion (λ c. passed cmp k c ≤ m) cs → slice_index (map (passed cmp k) cs) i ≤ m
    few_at [] i m a = omega arith
    few_at (c ∷ cs) zero m a = a.0
    few_at (c ∷ cs) (suc i) m a = few_at cs i m a.1

    few_down : (n : Node K V Z) (m : ℕ) → AllByRecursion (λ c. passed cmp k c ≤ m) (children_of n) → passed cmp k n ≤ length (own_pairs n) + m
    few_down n m a =
        let s = own_pairs n in
        let d = if_down (list_any (λ e. is_eq (cmp e.0 k)) s) _ m (few_at (children_of n) (lower_count cmp k s) m a) in
        let f = few_own s in
        let e = passed_is cmp k n in
        omega arith

    few_each : (P : Node K V Z → Type 0) (m : ℕ) → ((c : Node K V Z) → P c → passed cmp k c ≤ m) → (cs : List (Node K V Z)) → AllByRecursion P cs
        → AllByRecursion (λ c. passed cmp k c ≤ m) cs
    few_each P m f [] a = tt
    few_each P m f (c ∷ cs) a = (f c a.0, few_each P m f cs a.1)

    pub passed_bound : (h : ℕ) (n : Node K V Z) → IsLevelled h n → passed cmp k n ≤ level_comparisons * (h + 1)
    passed_bound zero n l = let b = few_down n 0 (subst (AllByRecursion (λ c. passed cmp k c ≤ 0)) (sym (leaf_children n l.1)) tt) in omega arith
    passed_bound (suc h) n l =
        let b = few_down n (level_comparisons * (h + 1)) (few_each (λ c. (min_len ≤ length (own_pairs c)) × IsLevelled h c) (level_comparisons * (h + 1))
        (λ c p. passed_bound h c p.1) (children_of n) l.2) in
        omega arith
