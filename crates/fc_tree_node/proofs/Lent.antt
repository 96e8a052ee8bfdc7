-- A child lent out of a node, and the node with what came back in its place.
use Rattle.std.proofs.Common.{◌≡◌, ℕ, zero, suc, ◌+◌, ◌<◌, ◌≤◌, List, ◌++◌, length, get_or, map, take, drop, Option, Some, None, refl, sym, ap, subst, ◌∙◌}
use Rattle.std.proofs.Common.{rules, arith}
use Rattle.std.specs.Prelude.{IsSome, slice_set}
use Rattle.std.specs.List.{AllByRecursion}
use Rattle.std.specs.Option.{option_map}
use Rattle.std.proofs.lemmas.List.{get_or-set_same, take-set, drop-set-lt, get_or_read}
use Rattle.fc_tree_node.specs.Weave.{before_list, after_list}
use Rattle.fc_tree_node.specs.declared.node.Node.{Node, out-Node, roll-Node}
use Rattle.fc_tree_node.specs.Node.{items_or_none, own_pairs, children_of, child_at, pairs_of, IsInner, IsLevelled}
use Rattle.fc_tree_node.specs.Place.{before_child, after_child}
use Rattle.fc_tree_node.proofs.Lists.{length_set, all_set}
use Rattle.fc_tree_node.proofs.Pairs.{IsBelow, leaf_children}
use Rattle.fc_tree_node.proofs.Made.{own_made, children_made}
use Rattle.fc_tree_node.proofs.Gaps.{inner_gap}

pub some_in : {X : Type 0} (o : Option (List X)) (i : ℕ) → i < length (items_or_none o) → IsSome o
some_in None i h = absurd (omega arith)
some_in (Some cs) i h = search rules

set_in : {X : Type 0} (o : Option (List X)) (i : ℕ) (x : X) → items_or_none (option_map (λ xs. slice_set xs i x) o) ≡ slice_set (items_or_none o) i x
set_in None i x = refl
set_in (Some xs) i x = refl

module _ {K V Z : Type 0} where
  -- a node in some way of being, one level above another
  pub record IsAbove (L : ℕ → Node K V Z → Type 0) (h : ℕ) (n : Node K V Z) : Type 0 where
    pub below : ℕ
    pub height : h ≡ suc below
    pub levels : L (suc below) n

  pub above : (L : ℕ → Node K V Z → Type 0) (h : ℕ) (n : Node K V Z) → (L 0 n → ⊥) → L h n → IsAbove L h n
  above L zero n f l = absurd (f l)
  above L (suc h) n f l = record { below = h; height = refl; levels = l }

  -- the child at its place i, lent, in a way of being of its own
  pub record IsLent (L P : ℕ → Node K V Z → Type 0) (h : ℕ) (n c : Node K V Z) (i : ℕ) : Type 0 where
    pub below : ℕ
    pub height : h ≡ suc below
    pub levels : L (suc below) n
    pub inner : IsInner n
    pub place : i ≤ length (own_pairs n)
    pub is : c ≡ child_at n i
    pub child : P below c

  pub lent : {L P : ℕ → Node K V Z → Type 0} {h : ℕ} {n c : Node K V Z} {i : ℕ} (a : IsAbove L h n) → IsInner n → i ≤ length (own_pairs n)
      → c ≡ child_at n i → P a.below (child_at n i) → IsLent L P h n c i
  lent {P = P} a inner place is child = record {
    below = a.below;
    height = a.height;
    levels = a.levels;
    inner = inner;
    place = place;
    is = is;
    child = subst (P a.below) (sym is) child;
  }

  -- what is read at the place
  pub lent_is : (n : Node K V Z) (i : ℕ) (c : Node K V Z) → IsInner n → i ≤ length (own_pairs n) → c ≡ get_or (children_of n) i c → c ≡ child_at n i
  lent_is n i c inner le e = get_or_read (children_of n) i c (let k : length (children_of n) ≡ length (own_pairs n) + 1 = inner in omega arith) e n

  -- a child that is there
  pub above_child : (h : ℕ) (n : Node K V Z) (i : ℕ) → i < length (children_of n) → IsLevelled h n → IsAbove IsLevelled h n
  above_child h n i lt = above IsLevelled h n (λ l. let e = ap length (leaf_children n l.1) in omega arith)

  -- a node whose child at the place i gave way to c
  pub record IsReplaced (old new : Node K V Z) (i : ℕ) (c : Node K V Z) : Type 0 where
    pub same : own_pairs new ≡ own_pairs old
    pub child : children_of new ≡ slice_set (children_of old) i c
    pub size : length (own_pairs new) ≡ length (own_pairs old)
    pub many : length (children_of new) ≡ length (children_of old)
    pub inner : IsInner old → IsInner new
    pub lead : take i (children_of new) ≡ take i (children_of old)
    pub rest : drop (suc i) (children_of new) ≡ drop (suc i) (children_of old)
    pub before : before_child new i ≡ before_child old i
    pub here : i < length (children_of old) → child_at new i ≡ c
    pub after : after_child new i ≡ after_child old i
    pub pairs : IsInner old → i ≤ length (own_pairs old) → pairs_of new ≡ before_child old i ++ (pairs_of c ++ after_child old i)

  pub replaced : (n : Node K V Z) (i : ℕ) (c : Node K V Z)
      → IsReplaced n (roll-Node K V Z (record { pairs = own_pairs n; children = option_map (λ cs. slice_set cs i c) (out-Node K V Z n).children })) i c
  replaced n i c =
      let m = roll-Node K V Z (record { pairs = own_pairs n; children = option_map (λ cs. slice_set cs i c) (out-Node K V Z n).children }) in
      let same : own_pairs m ≡ own_pairs n = own_made _ in
      let child : children_of m ≡ slice_set (children_of n) i c = children_made _ ∙ set_in (out-Node K V Z n).children i c in
      let size : length (own_pairs m) ≡ length (own_pairs n) = ap length same in
      let many : length (children_of m) ≡ length (children_of n) = ap length child ∙ length_set (children_of n) i c in
      let inner : IsInner n → IsInner m = λ (h : length (children_of n) ≡ length (own_pairs n) + 1). many ∙ h ∙ ap (λ k. k + 1) (sym size) in
      let lead : take i (children_of m) ≡ take i (children_of n) = ap (take i) child ∙ take-set (children_of n) i c in
      let rest : drop (suc i) (children_of m) ≡ drop (suc i) (children_of n) =
      ap (drop (suc i)) child ∙ drop-set-lt (suc i) (children_of n) i c (omega arith) in
      let before : before_child m i ≡ before_child n i = ap (λ ds. before_list (map pairs_of ds) (take i (own_pairs m))) lead
      ∙ ap (λ ps. before_list (map pairs_of (take i (children_of n))) (take i ps)) same in
      let here : i < length (children_of n) → child_at m i ≡ c = λ h. ap (λ ds. get_or ds i m) child ∙ get_or-set_same (children_of n) i c m h in
      let after : after_child m i ≡ after_child n i = ap (λ ds. after_list (drop i (own_pairs m)) (map pairs_of ds)) rest
      ∙ ap (λ ps. after_list (drop i ps) (map pairs_of (drop (suc i) (children_of n)))) same in
      record {
        same = same;
        child = child;
        size = size;
        many = many;
        inner = inner;
        lead = lead;
        rest = rest;
        before = before;
        here = here;
        after = after;
        pairs = λ (h : length (children_of n) ≡ length (own_pairs n) + 1) le. inner_gap m i (inner h) (omega arith)
            ∙ ap (λ zs. zs ++ (pairs_of (child_at m i) ++ after_child m i)) before
            ∙ ap (λ x. before_child n i ++ (pairs_of x ++ after_child m i)) (here (omega arith))
            ∙ ap (λ zs. before_child n i ++ (pairs_of c ++ zs)) after;
      }

  -- what holds of each child and of the new one holds of all
  pub replaced_all : (P : Node K V Z → Type 0) {old new c : Node K V Z} {i : ℕ} → IsReplaced old new i c → AllByRecursion P (children_of old) → P c
      → AllByRecursion P (children_of new)
  replaced_all P {old = old} {c = c} {i = i} m all p = subst (AllByRecursion P) (sym m.child) (all_set P (children_of old) i c all p)

  -- its pairs stay where those below the child do
  pub replaced_same : {old new c : Node K V Z} {i : ℕ} → IsReplaced old new i c → IsInner old → i ≤ length (own_pairs old)
      → pairs_of c ≡ pairs_of (child_at old i) → pairs_of new ≡ pairs_of old
  replaced_same {old = old} {i = i} m inner le e =
      m.pairs inner le ∙ ap (λ zs. before_child old i ++ (zs ++ after_child old i)) e ∙ sym (inner_gap old i inner le)

  -- its levels
  pub replaced_levels : (h : ℕ) {old new c : Node K V Z} {i : ℕ} → IsReplaced old new i c → IsLevelled (suc h) old → IsBelow h c
      → IsLevelled (suc h) new
  replaced_levels h m l b = (omega (arith, l.0, m.size), m.inner l.1, replaced_all (IsBelow h) m l.2 b)
