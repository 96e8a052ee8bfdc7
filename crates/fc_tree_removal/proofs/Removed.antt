-- A node from which a pair was removed, by what is left below it.
use Rattle.std.proofs.Common.{length-append, ◌≡◌, ℕ, suc, zero, ◌+◌, ◌-◌, ◌<◌, ◌≤◌, List, [], ◌∷◌, ◌++◌, length, get_or, map, take, drop, refl, sym, ap, subst}
use Rattle.std.proofs.Common.{◌∙◌, arith, append_assoc, add-one, append-nil, inl, inr, Option, Some, None, MatchOption}
use Rattle.std.specs.Prelude.{slice_set, slice_range, slice_get, ◌⊎◌, ◌↔◌}
use Rattle.std.specs.List.{AllByRecursion, remove}
use Rattle.std.proofs.lemmas.Bool.{cases_lt}
use Rattle.std.proofs.lemmas.List.Edits.{length-remove}
use Rattle.std.proofs.lemmas.List.{length-map, map-append, take-set, drop-set-lt, get_or-set_same, nil_from_length}
use Rattle.fc_base.specs.Sizes.{capacity, min_len}
use Rattle.fc_tree_node.specs.Weave.{weave}
use Rattle.fc_tree_node.specs.declared.node.Node.{Node}
use Rattle.fc_tree_node.specs.Node.{own_pairs, children_of, child_at, pairs_of, IsLeaf, IsInner, IsLevelled, IsSound, IsSoundRoot}
use Rattle.fc_tree_node.specs.Place.{before_child, after_child, before_own, after_own, IsPlace, place_pair, before_pair, after_pair}
use Rattle.fc_tree_removal.specs.Rebalancing.{IsShortAt}
use Rattle.fc_tree_removal.specs.Removal.{IsTreeLeft, IsSpared}
use Rattle.fc_tree_node.specs.Shrunk.{IsShrunk}
use Rattle.fc_tree_node.proofs.Lists.{length_take, set_is, length_set, all_take, all_drop}
use Rattle.fc_tree_node.proofs.Weaves.{weave_parts}
use Rattle.fc_tree_node.proofs.Pairs.{pairs_is, leaf_children, leaf_pairs, child_below}
use Rattle.fc_tree_node.proofs.Lent.{IsAbove, above_child, IsLent, lent, lent_is, IsReplaced}
use Rattle.fc_tree_node.proofs.Cuts.{last_out}
use Rattle.fc_tree_node.proofs.Gaps.{drop_item, inner_gap, item_there, before_child_pair, after_none}
use Rattle.fc_tree_node.proofs.PathSteps.{take_all}

module _ {X : Type 0} where
  pub get_there : (xs : List X) (i : ℕ) (x : X) → i < length xs → x ≡ get_or xs i x → slice_get xs i ≡ Some x
  get_there xs i x h e = let t = item_there xs i h in t.2 ∙ ap Some (sym (t.1 x) ∙ sym e)

module _ {K V Z : Type 0} where
  -- a level leaf has no level below it
  pub none_leaf : (h : ℕ) (n : Node K V Z) → IsLeaf n → IsLevelled h n → h ≡ 0
  none_leaf zero n e l = refl
  none_leaf (suc h) n e l =
      let z : length (children_of n) ≡ 0 = ap length (leaf_children n e) in
      absurd (omega arith)

  pub leaf_shrunk : (h : ℕ) (old new : Node K V Z) (i : ℕ) → IsLeaf old → IsLevelled h old → i < length (own_pairs old)
      → own_pairs new ≡ remove (own_pairs old) i → IsLeaf new → IsShrunk h old new
  leaf_shrunk h old new i e l lt f e' =
      let z = none_leaf h old e l in
      let fits : length (own_pairs old) ≤ capacity = (subst (λ k. IsLevelled k old) z l).0 in
      let m : length (own_pairs new) ≡ length (remove (own_pairs old) i) = ap length f in
      let r = length-remove (own_pairs old) i lt in
      subst (λ k. IsShrunk k old new) (sym z) ((omega arith, e'), (omega arith, omega arith))

  -- a child lent out of a node above the leaves
  pub lent_sound : {h : ℕ} {n child : Node K V Z} {i : ℕ} (a : IsAbove IsLevelled h n) → i ≤ length (own_pairs n)
      → child ≡ get_or (children_of n) i child → IsLent IsLevelled IsSound h n child i
  lent_sound {n = n} {child = child} {i = i} a le q = lent a a.levels.1 le (lent_is n i child a.levels.1 le q) (child_below a.below n i a.levels le)

  module _ {h : ℕ} {old child : Node K V Z} {i : ℕ} (l : IsLent IsLevelled IsSound h old child i) where
    pub sound : IsSoundRoot l.below child
    sound = (omega (arith, l.child.0), l.child.1)

    -- it came back as c, and is short at most if it has lost a pair
    came_short : (mid c : Node K V Z) → 1 ≤ length (own_pairs old) → length (own_pairs mid) ≡ length (own_pairs old)
        → children_of mid ≡ slice_set (children_of old) i c → IsShrunk l.below child c → IsShortAt l.below mid i
    came_short mid c some same f s =
        let cs = children_of old in
        let n : length (children_of mid) ≡ length cs = ap length f ∙ length_set cs i c in
        let fits = l.levels.0 in
        let cm : child_at mid i ≡ c = ap (λ ds. get_or ds i mid) f ∙ get_or-set_same cs i c mid (omega arith) in
        let cl : length (own_pairs (child_at mid i)) ≡ length (own_pairs c) = ap (λ x. length (own_pairs x)) cm in
        let All = AllByRecursion (IsSound l.below) in
        record {
          some = omega arith;
          fits = omega arith;
          inner = omega arith;
          place = omega arith;
          before = subst All (sym (ap (take i) f ∙ take-set cs i c)) (all_take (IsSound l.below) i cs l.levels.2);
          short = omega arith;
          levels = subst (IsLevelled l.below) (sym cm) s.0;
          after = subst All (sym (ap (drop (suc i)) f ∙ drop-set-lt (suc i) cs i c (omega arith)))
              (all_drop (IsSound l.below) (suc i) cs l.levels.2);
        }

    -- the node that had it was rebalanced
    came_rebalanced : (mid new : Node K V Z) → length (own_pairs mid) ≡ length (own_pairs old) → IsShrunk (suc l.below) mid new → IsShrunk h old new
    came_rebalanced mid new same s =
        subst (λ k. IsShrunk k old new) (sym l.height) (s.0, (omega arith, omega arith))

    -- a child that was not short leaves the node as it is: so where the node lost a pair, the child that came back did too, and is short
    came_lost : (mid new c : Node K V Z) → length (own_pairs mid) ≡ length (own_pairs old) → children_of mid ≡ slice_set (children_of old) i c
        → (min_len ≤ length (own_pairs (child_at mid i)) → new ≡ mid) → length (own_pairs new) < length (own_pairs old)
        → (length (own_pairs c) < length (own_pairs child)) × (length (own_pairs (child_at mid i)) < min_len)
    came_lost mid new c same f stays lost = found (cases_lt (length (own_pairs (child_at mid i))) min_len)
      where
        found : (length (own_pairs (child_at mid i)) < min_len) ⊎ (min_len ≤ length (own_pairs (child_at mid i)))
            → (length (own_pairs c) < length (own_pairs child)) × (length (own_pairs (child_at mid i)) < min_len)
        found (inl short) =
            let cm : child_at mid i ≡ c = ap (λ ds. get_or ds i mid) f ∙ get_or-set_same (children_of old) i c mid (omega arith) in
            let cl : length (own_pairs (child_at mid i)) ≡ length (own_pairs c) = ap (λ x. length (own_pairs x)) cm in
            (omega arith, short)
        found (inr whole) = absurd (let e = ap (λ n. length (own_pairs n)) (stays whole) in omega arith)

    pub lent_lost : {mid c : Node K V Z} (new : Node K V Z) → IsReplaced old mid i c → (min_len ≤ length (own_pairs (child_at mid i)) → new ≡ mid)
        → length (own_pairs new) < length (own_pairs old)
        → (length (own_pairs c) < length (own_pairs child)) × (length (own_pairs (child_at mid i)) < min_len)
    lent_lost new m stays lost = came_lost _ new _ m.size m.child stays lost

    pub lent_short : {mid c : Node K V Z} → 1 ≤ length (own_pairs old) → IsReplaced old mid i c → IsShrunk l.below child c → IsShortAt l.below mid i
    lent_short some m s = came_short _ _ some m.size m.child s

    pub lent_rebalanced : {mid c : Node K V Z} (new : Node K V Z) → 1 ≤ length (own_pairs old) → IsReplaced old mid i c → IsShrunk l.below child c
        → (IsShortAt l.below mid i → IsShrunk (suc l.below) mid new) → IsShrunk h old new
    lent_rebalanced new some m s f = came_rebalanced _ new m.size (f (lent_short some m s))

  pub first_removed : (old mid child c : Node K V Z) (x : K × V) → IsInner old → IsReplaced old mid 0 c → child ≡ child_at old 0
      → pairs_of child ≡ x ∷ pairs_of c → pairs_of old ≡ x ∷ pairs_of mid
  first_removed old mid child c x inner m ci e =
      inner_gap old 0 inner (omega arith) ∙ ap (λ n. pairs_of n ++ after_child old 0) (sym ci) ∙ ap (λ zs. zs ++ after_child old 0) e
      ∙ ap (λ zs. x ∷ zs) (sym (m.pairs inner (omega arith)))

  pub last_removed : (old mid child c : Node K V Z) (i : ℕ) (x : K × V) → i ≡ length (own_pairs old) → IsInner old → IsReplaced old mid i c
      → child ≡ child_at old i → pairs_of child ≡ pairs_of c ++ x ∷ [] → pairs_of old ≡ pairs_of mid ++ x ∷ []
  last_removed old mid child c i x end inner m ci e =
      let lead = before_child old i in
      let none = after_none old i (omega arith) in
      inner_gap old i inner (omega arith) ∙ ap (λ r. lead ++ (pairs_of (child_at old i) ++ r)) none
      ∙ ap (λ zs. lead ++ zs) (append-nil (pairs_of (child_at old i)) ∙ sym (ap pairs_of ci) ∙ e)
      ∙ sym (append_assoc lead (pairs_of c) (x ∷ []))
      ∙ ap (λ zs. zs ++ x ∷ []) (sym (m.pairs inner (omega arith) ∙ ap (λ r. lead ++ (pairs_of c ++ r)) none
      ∙ ap (λ zs. lead ++ zs) (append-nil (pairs_of c))))

  pub last_taken : (old new : Node K V Z) (i : ℕ) (x : K × V) → IsLeaf old → IsLeaf new → i + 1 ≡ length (own_pairs old) → x ≡ get_or (own_pairs old) i x
      → own_pairs new ≡ remove (own_pairs old) i → pairs_of old ≡ pairs_of new ++ x ∷ []
  last_taken old new i x l l' end e f = leaf_pairs old l ∙ last_out (own_pairs old) i x end e ∙ ap (λ ps. ps ++ x ∷ []) (sym (leaf_pairs new l' ∙ f))

  -- the last child holds fewer pairs than the node
  pub fewer_last : (h : ℕ) (n child : Node K V Z) (i : ℕ) → IsLevelled (suc h) n → 1 ≤ length (own_pairs n) → i ≡ length (own_pairs n) → child ≡ child_at n i
      → length (pairs_of child) < length (pairs_of n)
  fewer_last h n child zero l some end ci = absurd (omega arith)
  fewer_last h n child (suc j) l some end ci =
      let d = (item_there (own_pairs n) j (omega arith)).0 in
      let lead = ap length (before_child_pair (suc h) n j d l (omega arith)) ∙ length-append (before_own n j) (get_or (own_pairs n) j d ∷ []) in
      let whole = ap length (inner_gap n (suc j) l.1 (omega arith)) ∙ length-append (before_child n (suc j))
      (pairs_of (child_at n (suc j)) ++ after_child n (suc j)) in
      let back = length-append (pairs_of (child_at n (suc j))) (after_child n (suc j)) in
      let same : length (pairs_of child) ≡ length (pairs_of (child_at n (suc j))) = ap (λ m. length (pairs_of m)) ci in
      omega arith

  -- the node with another pair of its own at a place and another child after it
  pub record IsOwnSet (old mid : Node K V Z) (i : ℕ) (next : K × V) (c : Node K V Z) : Type 0 where
    pub pairs : own_pairs mid ≡ slice_set (own_pairs old) i next
    pub children : children_of mid ≡ slice_set (children_of old) (i + 1) c

  pub own_set : (old mid new : Node K V Z) (i : ℕ) (next : K × V) (c : Node K V Z) → IsReplaced old mid (i + 1) c
      → own_pairs new ≡ slice_set (own_pairs mid) i next → children_of new ≡ children_of mid → IsOwnSet old new i next c
  own_set old mid new i next c m e f = record {
    pairs = e ∙ ap (λ ps. slice_set ps i next) m.same;
    children = f ∙ m.child;
  }

  own_kept : (old mid c : Node K V Z) (next : K × V) (i : ℕ) → IsOwnSet old mid i next c → length (own_pairs mid) ≡ length (own_pairs old)
  own_kept old mid c next i m = ap length m.pairs ∙ length_set (own_pairs old) i next

  module _ {h : ℕ} {old child : Node K V Z} {i : ℕ} (l : IsLent IsLevelled IsSound h old child (i + 1)) where
    pub own_short : {mid c : Node K V Z} {next : K × V} → 1 ≤ length (own_pairs old) → IsOwnSet old mid i next c → IsShrunk l.below child c
        → IsShortAt l.below mid (i + 1)
    own_short some m s = came_short l _ _ some (own_kept _ _ _ _ _ m) m.children s

    pub own_lost : {mid c : Node K V Z} {next : K × V} (new : Node K V Z) → IsOwnSet old mid i next c
        → (min_len ≤ length (own_pairs (child_at mid (i + 1))) → new ≡ mid) → length (own_pairs new) < length (own_pairs old)
        → (length (own_pairs c) < length (own_pairs child)) × (length (own_pairs (child_at mid (i + 1))) < min_len)
    own_lost new m stays lost = came_lost l _ new _ (own_kept _ _ _ _ _ m) m.children stays lost

    pub own_rebalanced : {mid c : Node K V Z} {next : K × V} (new : Node K V Z) → 1 ≤ length (own_pairs old) → IsOwnSet old mid i next c
        → IsShrunk l.below child c → (IsShortAt l.below mid (i + 1) → IsShrunk (suc l.below) mid new) → IsShrunk h old new
    own_rebalanced new some m s f = came_rebalanced l _ new (own_kept _ _ _ _ _ m) (f (own_short some m s))

  -- the pairs of a node of which the first pair after one of its own has taken that one's place
  pub own_replaced : {h : ℕ} (old mid child c : Node K V Z) (next : K × V) (i : ℕ) → IsLent IsLevelled IsSound h old child (i + 1) → IsOwnSet old mid i next c
      → pairs_of child ≡ next ∷ pairs_of c → pairs_of mid ≡ before_own old i ++ after_own old i
  own_replaced old mid child c next i l m q =
      let h : i < length (own_pairs old) = omega arith in
      let children_is : children_of mid ≡ slice_set (children_of old) (suc i) c = m.children ∙ ap (λ k. slice_set (children_of old) k c) (add-one i) in
      let next_is : child ≡ child_at old (suc i) = l.is ∙ ap (child_at old) (add-one i) in
      let cs = take (suc i) (children_of old) in let ds = drop (suc (suc i)) (children_of old) in
      let ps = take i (own_pairs old) in let qs = drop (suc i) (own_pairs old) in
      let n : length (map pairs_of cs) ≡ length ps + 1 = length-map cs pairs_of ∙ length_take (suc i) (children_of old) (omega arith)
      ∙ (let t = length_take i (own_pairs old) (omega arith) in omega arith) in
      pairs_is mid ∙ ap (λ zs. weave (map pairs_of (children_of mid)) zs) (m.pairs ∙ set_is (own_pairs old) i next h)
      ∙ ap (λ zs. weave (map pairs_of zs) (ps ++ next ∷ qs)) (children_is ∙ set_is (children_of old) (suc i) c (omega arith))
      ∙ ap (λ zs. weave zs (ps ++ next ∷ qs)) (map-append pairs_of cs (c ∷ ds))
      ∙ weave_parts (map pairs_of cs) (map pairs_of (c ∷ ds)) ps next qs n (omega arith)
      ∙ ap (λ zs. before_own old i ++ zs)
      (ap (λ zs. weave (zs ∷ map pairs_of ds) qs) (sym q ∙ ap pairs_of next_is)
      ∙ ap (λ zs. weave (map pairs_of zs) qs) (sym (drop_item (children_of old) (suc i) old (omega arith))))

module _ {K V Z : Type 0} where
  pub empty_leaf : (root : Node K V Z) → IsLeaf root → length (own_pairs root) ≡ 0 → pairs_of root ≡ []
  empty_leaf root l e = leaf_pairs root l ∙ nil_from_length (own_pairs root) e

  -- what takes the place of a root without pairs is a level lower, or nothing
  pub heir_left : (heir : Option (Node K V Z)) (h : ℕ) (root : Node K V Z)
      → MatchOption heir (IsLeaf root) (λ c. children_of root ≡ c ∷ []) → IsLevelled h root → IsTreeLeft h heir
  heir_left None h root e l = none_leaf h root e l
  heir_left (Some c) zero root e l = absurd (let q = sym (leaf_children root l.1) ∙ e in cc)
  heir_left (Some c) (suc h) root e l =
      let a = (subst (AllByRecursion (IsSound h)) e l.2).0 in
      let k : h ≡ suc h - 1 = omega arith in
      inr (omega arith, subst (λ m. IsSoundRoot m c) k (omega arith, a.1))

-- a place of two or more steps, as its first step and the rest
pub record IsPlaceStep {K V Z : Type 0} (p : List ℕ) (n : Node K V Z) : Type 0 where
  pub child : get_or p 0 0 < length (children_of n)
  pub onward : IsPlace (slice_range p 1 (length p)) (child_at n (get_or p 0 0))
  pub pair : place_pair p n ≡ place_pair (slice_range p 1 (length p)) (child_at n (get_or p 0 0))
  pub before : before_pair p n ≡ before_child n (get_or p 0 0) ++ before_pair (slice_range p 1 (length p)) (child_at n (get_or p 0 0))
  pub after : after_pair p n ≡ after_pair (slice_range p 1 (length p)) (child_at n (get_or p 0 0)) ++ after_child n (get_or p 0 0)

pub place_step : {K V Z : Type 0} (p : List ℕ) (n : Node K V Z) → (length p ≡ 1 → ⊥) → IsPlace p n → IsPlaceStep p n
place_step [] n h w = absurd w
place_step (i ∷ []) n h w = absurd (h refl)
place_step (i ∷ j ∷ p) n h w =
    let e : j ∷ p ≡ slice_range (i ∷ j ∷ p) 1 (length (i ∷ j ∷ p)) = sym (take_all (j ∷ p) (suc (suc (length p)) - 1) (omega arith)) in
    record {
      child = w.0;
      onward = subst (λ q. IsPlace q (child_at n i)) e w.1;
      pair = ap (λ q. place_pair q (child_at n i)) e;
      before = ap (λ q. before_child n i ++ before_pair q (child_at n i)) e;
      after = ap (λ q. after_pair q (child_at n i) ++ after_child n i) e;
    }

-- the place is spared below the first step as it is from there on
pub spared_step : {K V Z : Type 0} (p : List ℕ) (n : Node K V Z) → (length p ≡ 1 → ⊥) → IsPlace p n
    → IsSpared (slice_range p 1 (length p)) (child_at n (get_or p 0 0)) ↔ IsSpared p n
spared_step [] n h w = absurd w
spared_step (i ∷ []) n h w = absurd (h refl)
spared_step (i ∷ j ∷ p) n h w =
    let e : slice_range (i ∷ j ∷ p) 1 (length (i ∷ j ∷ p)) ≡ j ∷ p = take_all (j ∷ p) (suc (suc (length p)) - 1) (omega arith) in
    (subst (λ q. IsSpared q (child_at n i)) e, subst (λ q. IsSpared q (child_at n i)) (sym e))

-- a place of one step
pub spared_here : {K V Z : Type 0} (p : List ℕ) (n : Node K V Z) → length p ≡ 1 → IsLeaf n × (min_len < length (own_pairs n)) ↔ IsSpared p n
spared_here [] n h = absurd (omega arith)
spared_here (i ∷ []) n h = (λ w. w, λ w. w)
spared_here (i ∷ j ∷ p) n h = absurd (omega arith)

module _ {K V Z : Type 0} where
  -- the child on the way to a pair
  pub lent_onward : (h : ℕ) (p : List ℕ) (n child : Node K V Z) → IsPlaceStep p n → IsLevelled h n → child ≡ get_or (children_of n) (get_or p 0 0) child
      → IsLent IsLevelled IsSound h n child (get_or p 0 0)
  lent_onward h p n child s l q = let a = above_child h n _ s.child l in lent_sound a (omega (arith, a.levels.1, s.child)) q

  -- a pair was removed below a child
  pub below_removed : (p : List ℕ) (old mid child c : Node K V Z) → IsPlaceStep p old → IsInner old → IsReplaced old mid (get_or p 0 0) c
      → child ≡ child_at old (get_or p 0 0)
      → pairs_of c ≡ before_pair (slice_range p 1 (length p)) child ++ after_pair (slice_range p 1 (length p)) child
      → pairs_of mid ≡ before_pair p old ++ after_pair p old
  below_removed p old mid child c s inner m ci e =
      let i = get_or p 0 0 in let q = slice_range p 1 (length p) in
      let k : length (children_of old) ≡ length (own_pairs old) + 1 = inner in
      let a = before_pair q (child_at old i) in let b = after_pair q (child_at old i) in
      m.pairs inner (omega arith) ∙ ap (λ zs. before_child old i ++ (zs ++ after_child old i))
      (e ∙ ap (λ n. before_pair q n ++ after_pair q n) ci)
      ∙ ap (λ zs. before_child old i ++ zs) (append_assoc a b (after_child old i)) ∙ sym (append_assoc (before_child old i) a (b ++ after_child old i))
      ∙ ap (λ zs. zs ++ (b ++ after_child old i)) (sym s.before) ∙ ap (λ zs. before_pair p old ++ zs) (sym s.after)
