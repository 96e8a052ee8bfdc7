-- The first pair after a place of a tree and the last before it, and the parts of a list up to a key and from it on.
use Rattle.std.proofs.Common.{◌≡◌, ℕ, zero, suc, ◌+◌, ◌-◌, ◌<◌, List, [], ◌∷◌, ◌++◌, length, get_or, slice_get, Some, refl, sym, ap, ◌∙◌, arith, add-one}
use Rattle.std.proofs.Common.{append_assoc, append-nil, length-append, Option}
use Rattle.std.specs.Prelude.{Bool, true, false, if◌then◌else◌}
use Rattle.std.specs.Ordering.{is_le, is_ge}
use Rattle.std.specs.declared.cmp.Ordering.{Ordering}
use Rattle.std.specs.declared.cmp.Ordering.TheVariants.{Equal}
use Rattle.std.proofs.lemmas.List.{append_cancel_left, append_cancel_right}
use Rattle.std.proofs.lemmas.List.Elements.{filter-append}
use Rattle.fc_base.specs.Halves.{not_below}
use Rattle.fc_base.specs.Parts.{below, above}
use Rattle.fc_tree_node.specs.declared.node.Node.{Node}
use Rattle.fc_tree_node.specs.Node.{own_pairs, child_at, pairs_of, IsLeaf, IsInner, IsLevelled}
use Rattle.fc_tree_node.specs.Path.{before_gap, after_gap}
use Rattle.fc_tree_node.specs.Place.{before_child, after_child, before_own, after_own, place_pair, before_pair, after_pair}
use Rattle.fc_tree_node.proofs.Gaps.{leaf_gap, inner_gap, own_pair, before_child_pair, after_child_pair, item_there, place_pairs, gap_pairs}
use Rattle.fc_tree_node.proofs.Gaps.{before_more, after_more, pair_more, before_own_more, after_own_more}
use Rattle.fc_tree_search.specs.Found.{AllBelow, AllAbove, IsFoundAt, IsGapAt, IsFound, IsGap}
use Rattle.fc_tree_search.specs.Neighbours.{first_item, last_item, not_above}
use Rattle.fc_tree_search.proofs.SearchFacts.{IsOnWay, IsSearch, way_gap, way_found, found_at, gap_at}

module _ {X : Type 0} where
  last_after : (xs : List X) (x : X) → slice_get (xs ++ x ∷ []) (length xs) ≡ Some x
  last_after [] x = refl
  last_after (y ∷ xs) x = last_after xs x

  -- the last of a list that ends with an item
  pub last_is : (xs : List X) (x : X) → last_item (xs ++ x ∷ []) ≡ Some x
  last_is xs x =
      let n : length (xs ++ x ∷ []) - 1 ≡ length xs = let l = length-append xs (x ∷ []) in omega arith in
      ap (slice_get (xs ++ x ∷ [])) n ∙ last_after xs x

  -- the last of a list is that of the whole, and the first alike
  pub first_kept : (xs rest : List X) (x : X) → first_item xs ≡ Some x → first_item (xs ++ rest) ≡ Some x
  first_kept [] rest x e = absurd cc
  first_kept (y ∷ xs) rest x e = e

  last_at : (lead xs : List X) (i n : ℕ) → n ≡ length lead + i → slice_get (lead ++ xs) n ≡ slice_get xs i
  last_at [] xs i n e = ap (slice_get xs) (omega arith)
  last_at (y ∷ lead) xs i zero e = absurd (omega arith)
  last_at (y ∷ lead) xs i (suc n) e = last_at lead xs i n (omega arith)

  pub last_kept : (lead xs : List X) (x : X) → last_item xs ≡ Some x → last_item (lead ++ xs) ≡ Some x
  last_kept lead [] x e = absurd cc
  last_kept lead (y ∷ xs) x e =
      let n : length (lead ++ y ∷ xs) - 1 ≡ length lead + (length (y ∷ xs) - 1) = let l = length-append lead (y ∷ xs) in omega arith in
      last_at lead (y ∷ xs) (length (y ∷ xs) - 1) (length (lead ++ y ∷ xs) - 1) n ∙ e

module _ {K V Z : Type 0} where
  -- what is before a child ends with the own pair there
  pub before_last : (h : ℕ) (n : Node K V Z) (i j : ℕ) (p : K × V) (lead : List (K × V)) → IsLevelled h n → i < length (own_pairs n) → j ≡ suc i
      → p ≡ get_or (own_pairs n) i p → Some p ≡ last_item (lead ++ before_child n j)
  before_last h n i j p lead l lt s e =
      sym (ap (λ s. last_item (lead ++ s)) (ap (before_child n) s ∙ before_child_pair h n i p l lt ∙ ap (λ x. before_own n i ++ x ∷ []) (sym e))
      ∙ last_kept lead (before_own n i ++ p ∷ []) p (last_is (before_own n i) p))

  -- in a leaf, what is after a pair is what is after the next gap, and what is before it what is before its gap
  pub leaf_after_own : (n : Node K V Z) (i : ℕ) (p : K × V) (h : ℕ) → IsLevelled h n → IsLeaf n → i < length (own_pairs n)
      → after_own n i ≡ after_child n (suc i)
  leaf_after_own n i p h l leaf lt =
      append_cancel_left (before_child n (suc i)) (after_own n i) (after_child n (suc i))
      (ap (λ s. s ++ after_own n i) (before_child_pair h n i p l lt) ∙ append_assoc (before_own n i) (get_or (own_pairs n) i p ∷ []) (after_own n i)
      ∙ sym (own_pair h n i p l lt) ∙ leaf_gap n (suc i) leaf)

  pub leaf_before_own : (n : Node K V Z) (i : ℕ) (p : K × V) (h : ℕ) → IsLevelled h n → IsLeaf n → i < length (own_pairs n) → before_own n i ≡ before_child n i
  leaf_before_own n i p h l leaf lt =
      append_cancel_right (before_own n i) (before_child n i) (after_child n i)
      (ap (λ s. before_own n i ++ s) (after_child_pair n i p lt) ∙ sym (own_pair h n i p l lt) ∙ leaf_gap n i leaf)

  -- in an inner node, what is after a pair begins with the next child's, and what is before it ends with its child's
  pub inner_after : (n : Node K V Z) (i : ℕ) (p : K × V) (h : ℕ) → IsLevelled h n → IsInner n → i < length (own_pairs n)
      → after_own n i ≡ pairs_of (child_at n (suc i)) ++ after_child n (suc i)
  inner_after n i p h l inner lt =
      append_cancel_left (before_child n (suc i)) (after_own n i) (pairs_of (child_at n (suc i)) ++ after_child n (suc i))
      (ap (λ s. s ++ after_own n i) (before_child_pair h n i p l lt) ∙ append_assoc (before_own n i) (get_or (own_pairs n) i p ∷ []) (after_own n i)
      ∙ sym (own_pair h n i p l lt) ∙ inner_gap n (suc i) inner (omega arith))

  pub inner_before : (n : Node K V Z) (i : ℕ) (p : K × V) (h : ℕ) → IsLevelled h n → IsInner n → i < length (own_pairs n)
      → before_own n i ≡ before_child n i ++ pairs_of (child_at n i)
  inner_before n i p h l inner lt =
      append_cancel_right (before_own n i) (before_child n i ++ pairs_of (child_at n i)) (after_child n i)
      (ap (λ s. before_own n i ++ s) (after_child_pair n i p lt) ∙ sym (own_pair h n i p l lt) ∙ inner_gap n i inner (omega arith)
      ∙ sym (append_assoc (before_child n i) (pairs_of (child_at n i)) (after_child n i)))

  -- the first after a node's own pair, and the last before it: in a leaf as at a gap, in an inner node those of a child
  pub own_after_leaf : (h : ℕ) (n : Node K V Z) (i : ℕ) (rest : List (K × V)) → IsLevelled h n → IsLeaf n → i < length (own_pairs n)
      → first_item (after_child n (i + 1) ++ rest) ≡ first_item (after_own n i ++ rest)
  own_after_leaf h n i rest l leaf lt =
      let p = (item_there (own_pairs n) i lt).0 in
      ap (λ j. first_item (after_child n j ++ rest)) (add-one i) ∙ ap (λ s. first_item (s ++ rest)) (sym (leaf_after_own n i p h l leaf lt))

  pub own_before_leaf : (h : ℕ) (n : Node K V Z) (i : ℕ) (lead : List (K × V)) → IsLevelled h n → IsLeaf n → i < length (own_pairs n)
      → last_item (lead ++ before_child n i) ≡ last_item (lead ++ before_own n i)
  own_before_leaf h n i lead l leaf lt =
      let p = (item_there (own_pairs n) i lt).0 in
      ap (λ s. last_item (lead ++ s)) (sym (leaf_before_own n i p h l leaf lt))

  pub own_after_inner : (h : ℕ) (n child : Node K V Z) (i : ℕ) (r : K × V) (rest : List (K × V)) → IsLevelled h n → IsInner n → i < length (own_pairs n)
      → child ≡ child_at n (i + 1) → first_item (pairs_of child) ≡ Some r → Some r ≡ first_item (after_own n i ++ rest)
  own_after_inner h n child i r rest l inner lt e f =
      let p = (item_there (own_pairs n) i lt).0 in
      let s : pairs_of (child_at n (suc i)) ≡ pairs_of child = ap pairs_of (ap (child_at n) (sym (add-one i)) ∙ sym e) in
      sym (ap (λ s. first_item (s ++ rest)) (inner_after n i p h l inner lt ∙ ap (λ s. s ++ after_child n (suc i)) s)
      ∙ first_kept (pairs_of child ++ after_child n (suc i)) rest r (first_kept (pairs_of child) (after_child n (suc i)) r f))

  pub own_before_inner : (h : ℕ) (n child : Node K V Z) (i : ℕ) (r : K × V) (lead : List (K × V)) → IsLevelled h n → IsInner n → i < length (own_pairs n)
      → child ≡ child_at n i → last_item (pairs_of child) ≡ Some r → Some r ≡ last_item (lead ++ before_own n i)
  own_before_inner h n child i r lead l inner lt e f =
      let p = (item_there (own_pairs n) i lt).0 in
      sym (ap (λ s. last_item (lead ++ s)) (inner_before n i p h l inner lt ∙ ap (λ s. before_child n i ++ s) (ap pairs_of (sym e)))
      ∙ last_kept lead (before_child n i ++ pairs_of child) r (last_kept (before_child n i) (pairs_of child) r f))

-- the parts of a list of smaller keys, maybe a pair with an equal key, and greater keys
module _ {K Q V : Type 0} (cmp : K → Q → Ordering) (k : Q) where
  lower_from : (s : List (K × V)) → AllBelow cmp k s → (not_below cmp s k ≡ []) × (not_above cmp s k ≡ s)
  lower_from [] a = (refl, refl)
  lower_from (e ∷ s) a = let i = lower_from s a.1 in (rw a.0 i.0, rw a.0 (ap (λ zs. e ∷ zs) i.1))

  upper_from : (s : List (K × V)) → AllAbove cmp k s → (not_below cmp s k ≡ s) × (not_above cmp s k ≡ [])
  upper_from [] a = (refl, refl)
  upper_from (e ∷ s) a = let i = upper_from s a.1 in (rw a.0 (ap (λ zs. e ∷ zs) i.0), rw a.0 i.1)

  equal_from : (p : K × V) (s : List (K × V)) → cmp p.0 k ≡ Equal → AllAbove cmp k s → (not_below cmp (p ∷ s) k ≡ p ∷ s) × (not_above cmp (p ∷ s) k ≡ p ∷ [])
  equal_from p s e a = let i = upper_from s a in (rw e (ap (λ zs. p ∷ zs) i.0), rw e (ap (λ zs. p ∷ zs) i.1))

  pub gap_from : (L R : List (K × V)) → AllBelow cmp k L → AllAbove cmp k R → (not_below cmp (L ++ R) k ≡ R) × (not_above cmp (L ++ R) k ≡ L)
  gap_from L R a b =
      let l = lower_from L a in let r = upper_from R b in (
        filter-append (λ e. is_ge (cmp e.0 k)) L R ∙ ap (λ zs. zs ++ not_below cmp R k) l.0 ∙ r.0,
        filter-append (λ e. is_le (cmp e.0 k)) L R ∙ ap (λ zs. zs ++ not_above cmp R k) l.1 ∙ ap (λ zs. L ++ zs) r.1 ∙ append-nil L,
      )

  pub pair_from : (L R : List (K × V)) (p : K × V) → AllBelow cmp k L → cmp p.0 k ≡ Equal → AllAbove cmp k R
      → (not_below cmp (L ++ p ∷ R) k ≡ p ∷ R) × (not_above cmp (L ++ p ∷ R) k ≡ L ++ p ∷ [])
  pair_from L R p a e b =
      let l = lower_from L a in let r = equal_from p R e b in (
        filter-append (λ e. is_ge (cmp e.0 k)) L (p ∷ R) ∙ ap (λ zs. zs ++ not_below cmp (p ∷ R) k) l.0 ∙ r.0,
        filter-append (λ e. is_le (cmp e.0 k)) L (p ∷ R) ∙ ap (λ zs. zs ++ not_above cmp (p ∷ R) k) l.1 ∙ ap (λ zs. L ++ zs) r.1,
      )

-- what is after and before a gap of the node that a way down has come to
module _ {K Q V Z : Type 0} (cmp : K → Q → Ordering) (k : Q) {root node : Node K V Z} {path : List ℕ} (w : IsOnWay cmp k root node path) (i : ℕ) where
  pub way_after : after_child node i ++ after_gap path root ≡ after_gap (path ++ i ∷ []) root
  way_after = sym (after_more path i root ∙ ap (λ n. after_child n i ++ after_gap path root) (sym w.here))

  pub way_before : before_gap path root ++ before_child node i ≡ before_gap (path ++ i ∷ []) root
  way_before = sym (before_more path i root ∙ ap (λ n. before_gap path root ++ before_child n i) (sym w.here))

-- where a way down ends
module _ {K Q V Z : Type 0} {own : K → K → Ordering} {cmp : K → Q → Ordering} {k : Q} {root node : Node K V Z} {path : List ℕ}
    (on : IsSearch own cmp k root node path) where
  -- in a gap of a leaf
  module _ (i : ℕ) (f : IsGapAt cmp k (own_pairs node) i) (leaf : IsLeaf node) where
    here : IsGap cmp k root (path ++ i ∷ [])
    here = way_gap on i _ refl f leaf

    whole : pairs_of root ≡ before_gap (path ++ i ∷ []) root ++ after_gap (path ++ i ∷ []) root
    whole = gap_pairs (path ++ i ∷ []) on.levels.0 root on.levels.2 (here.levels on.levels.0 on.levels.2) here.way

    after : after_child node i ++ after_gap path root ≡ after_gap (path ++ i ∷ []) root
    after = way_after cmp k on.way i

    before : before_gap path root ++ before_child node i ≡ before_gap (path ++ i ∷ []) root
    before = way_before cmp k on.way i

    pub none_from : after_child node i ++ after_gap path root ≡ not_below cmp (pairs_of root) k
    none_from = after ∙ sym (gap_from cmp k _ _ here.front here.back).0 ∙ ap (λ s. not_below cmp s k) (sym whole)

    pub none_to : before_gap path root ++ before_child node i ≡ not_above cmp (pairs_of root) k
    none_to = before ∙ sym (gap_from cmp k _ _ here.front here.back).1 ∙ ap (λ s. not_above cmp s k) (sym whole)

    pub none_after : after_child node i ++ after_gap path root ≡ above cmp (pairs_of root) k
    none_after = after ∙ sym (gap_at cmp k (path ++ i ∷ []) on.levels.0 root on.levels.2 here).upper

    pub none_before : before_gap path root ++ before_child node i ≡ below cmp (pairs_of root) k
    none_before = before ∙ sym (gap_at cmp k (path ++ i ∷ []) on.levels.0 root on.levels.2 here).lower

    pub none_first : (b : Bool) → after_child node i ++ after_gap path root ≡ (if b then not_below cmp (pairs_of root) k else above cmp (pairs_of root) k)
    none_first true = none_from
    none_first false = none_after

    pub none_last : (b : Bool) → before_gap path root ++ before_child node i ≡ (if b then not_above cmp (pairs_of root) k else below cmp (pairs_of root) k)
    none_last true = none_to
    none_last false = none_before

  -- at a pair
  module _ (i : ℕ) (f : IsFoundAt cmp k (own_pairs node) i) where
    there : IsFound cmp k root (path ++ i ∷ [])
    there = way_found on i _ refl f

    after_own_pair : after_own node i ++ after_gap path root ≡ after_pair (path ++ i ∷ []) root
    after_own_pair = sym (after_own_more path i root ∙ ap (λ n. after_own n i ++ after_gap path root) (sym on.way.here))

    before_own_pair : before_gap path root ++ before_own node i ≡ before_pair (path ++ i ∷ []) root
    before_own_pair = sym (before_own_more path i root ∙ ap (λ n. before_gap path root ++ before_own n i) (sym on.way.here))

    pub found_after : after_own node i ++ after_gap path root ≡ above cmp (pairs_of root) k
    found_after = after_own_pair ∙ sym (found_at cmp k (path ++ i ∷ []) on.levels.0 root on.levels.2 there).upper

    pub found_before : before_gap path root ++ before_own node i ≡ below cmp (pairs_of root) k
    found_before = before_own_pair ∙ sym (found_at cmp k (path ++ i ∷ []) on.levels.0 root on.levels.2 there).lower

    module _ (p : K × V) (e : p ≡ get_or (own_pairs node) i p) where
      is : place_pair (path ++ i ∷ []) root ≡ Some p
      is = let x = item_there (own_pairs node) i f.0 in pair_more path i root ∙ ap (λ n. slice_get (own_pairs n) i) (sym on.way.here) ∙ x.2
          ∙ ap Some (sym (x.1 p) ∙ sym e)

      equal : cmp p.0 k ≡ Equal
      equal = ap (λ x. cmp x.0 k) e ∙ f.2 p

      cut : pairs_of root ≡ before_pair (path ++ i ∷ []) root ++ p ∷ after_pair (path ++ i ∷ []) root
      cut =
          let c = place_pairs (path ++ i ∷ []) on.levels.0 root on.levels.2 there.place in
          let both : Some c.pair ≡ Some p = sym c.is ∙ is in
          let q : c.pair ≡ p = cc in
          c.parts ∙ ap (λ x. before_pair (path ++ i ∷ []) root ++ x ∷ after_pair (path ++ i ∷ []) root) q

      pub found_from : Some p ≡ first_item (not_below cmp (pairs_of root) k)
      found_from = sym (ap (λ s. first_item (not_below cmp s k)) cut ∙ ap first_item (pair_from cmp k _ _ p there.before equal there.after).0)

      pub found_to : Some p ≡ last_item (not_above cmp (pairs_of root) k)
      found_to = sym (ap (λ s. last_item (not_above cmp s k)) cut ∙ ap last_item (pair_from cmp k _ _ p there.before equal there.after).1
          ∙ last_is (before_pair (path ++ i ∷ []) root) p)

    pub found_first : (b : Bool) (found next : Option (K × V)) → (b ≡ true → found ≡ slice_get (own_pairs node) i)
        → (b ≡ false → (rest : List (K × V)) → next ≡ first_item rest → found ≡ first_item (after_own node i ++ rest)) → next ≡ first_item (after_gap path root)
        → found ≡ first_item (if b then not_below cmp (pairs_of root) k else above cmp (pairs_of root) k)
    found_first true found next equal beside e = let x = item_there (own_pairs node) i f.0 in equal refl ∙ x.2 ∙ found_from x.0 (sym (x.1 x.0))
    found_first false found next equal beside e = beside refl (after_gap path root) e ∙ ap first_item found_after

    pub found_last : (b : Bool) (found last : Option (K × V)) → (b ≡ true → found ≡ slice_get (own_pairs node) i)
        → (b ≡ false → (lead : List (K × V)) → last ≡ last_item lead → found ≡ last_item (lead ++ before_own node i)) → last ≡ last_item (before_gap path root)
        → found ≡ last_item (if b then not_above cmp (pairs_of root) k else below cmp (pairs_of root) k)
    found_last true found last equal beside e = let x = item_there (own_pairs node) i f.0 in equal refl ∙ x.2 ∙ found_to x.0 (sym (x.1 x.0))
    found_last false found last equal beside e = beside refl (before_gap path root) e ∙ ap last_item found_before
