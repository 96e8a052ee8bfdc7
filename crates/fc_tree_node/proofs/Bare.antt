-- A tree without its values: its parts, its levels, its paths, and what trees have in common that differ in their values alone.
use Rattle.std.proofs.Common.{◌≡◌, ℕ, zero, suc, List, [], ◌∷◌, ◌++◌, length, map, take, get_or, Option, Some, None, refl, sym, ap, subst, ◌∙◌, arith}
use Rattle.std.proofs.Math.ListN.{get_or-map}
use Rattle.std.proofs.lemmas.List.{length-map, map-append, length-append, take-map}
use Rattle.std.specs.List.{AllByRecursion}
use Rattle.std.specs.Option.{option_map}
use Rattle.std.specs.declared.cmp.Ordering.{Ordering}
use Rattle.std.specs.declared.cmp.Ordering.TheVariants.{Less}
use Rattle.fc_base.specs.Ascending.{IsAscending}
use Rattle.fc_tree_node.specs.Weave.{weave, before_list, after_list}
use Rattle.fc_tree_node.specs.declared.node.Node.{Node, out-Node, roll-Node, map-Node, fold-roll-Node, fold_out-Node, ind-Node}
use Rattle.fc_tree_node.specs.Bare.{key_alone, bare_step, bare}
use Rattle.fc_tree_node.specs.LeafGap.{IsLeafGap}
use Rattle.fc_tree_node.specs.Node.{items_or_none, own_pairs, children_of, child_at, pairs_of, IsLeaf, IsLevelled}
use Rattle.fc_tree_node.specs.Path.{IsPath, before_gap}
use Rattle.fc_tree_node.specs.Place.{before_child}
use Rattle.fc_tree_node.specs.Tree.{IsSoundMap}
use Rattle.fc_tree_node.proofs.Made.{own_made, children_made, field_made}
use Rattle.fc_tree_node.proofs.Pairs.{pairs_is, IsBelow}

module _ {X Y : Type 0} (f : X → Y) where
  after_map : (ps : List X) (cs : List (List X)) → after_list (map f ps) (map (map f) cs) ≡ map f (after_list ps cs)
  after_map [] cs = refl
  after_map (p ∷ ps) [] = refl
  after_map (p ∷ ps) (c ∷ cs) = ap (λ zs. f p ∷ (map f c ++ zs)) (after_map ps cs) ∙ ap (λ zs. f p ∷ zs) (sym (map-append f c (after_list ps cs)))

  before_map : (cs : List (List X)) (ps : List X) → before_list (map (map f) cs) (map f ps) ≡ map f (before_list cs ps)
  before_map [] ps = refl
  before_map (c ∷ cs) [] = refl
  before_map (c ∷ cs) (p ∷ ps) = ap (λ zs. map f c ++ f p ∷ zs) (before_map cs ps) ∙ sym (map-append f c (p ∷ before_list cs ps))

  weave_map : (cs : List (List X)) (ps : List X) → weave (map (map f) cs) (map f ps) ≡ map f (weave cs ps)
  weave_map [] ps = refl
  weave_map (c ∷ cs) ps = ap (λ zs. map f c ++ zs) (after_map ps cs) ∙ sym (map-append f c (after_list ps cs))

  module _ (P : Y → Type 0) (Q : X → Type 0) where
    all_there : ((x : X) → Q x → P (f x)) → (xs : List X) → AllByRecursion Q xs → AllByRecursion P (map f xs)
    all_there g [] a = tt
    all_there g (x ∷ xs) a = (g x a.0, all_there g xs a.1)

    all_here : ((x : X) → P (f x) → Q x) → (xs : List X) → AllByRecursion P (map f xs) → AllByRecursion Q xs
    all_here g [] a = tt
    all_here g (x ∷ xs) a = (g x a.0, all_here g xs a.1)

  module _ {K V Z : Type 0} where
    pub mapped : (ps : List (K × V)) (o : Option (List X)) → map-Node K V Z X Y f (record { pairs = ps; children = o })
        ≡ record { pairs = ps; children = option_map (map f) o }
    mapped ps None = refl
    mapped ps (Some cs) = refl

  items_map : (o : Option (List X)) → items_or_none (option_map (map f) o) ≡ map f (items_or_none o)
  items_map None = refl
  items_map (Some cs) = refl

module _ {K V Z : Type 0} where
  -- its parts
  pub rolled : (ps : List (K × V)) (o : Option (List (Node K V Z))) → bare (roll-Node K V Z (record { pairs = ps; children = o }))
      ≡ roll-Node K (Unit {0}) Z (record { pairs = map key_alone ps; children = option_map (map bare) o })
  rolled ps o = fold-roll-Node K V Z (Node K (Unit {0}) Z) bare_step (record { pairs = ps; children = o }) ∙ ap bare_step (mapped bare ps o)

  opened : (n : Node K V Z) → bare n
      ≡ roll-Node K (Unit {0}) Z (record { pairs = map key_alone (own_pairs n); children = option_map (map bare) (out-Node K V Z n).children })
  opened n = fold_out-Node K V Z (Node K (Unit {0}) Z) bare_step n ∙ ap bare_step (mapped bare (own_pairs n) (out-Node K V Z n).children)

  bare_field : (n : Node K V Z) → (out-Node K (Unit {0}) Z (bare n)).children ≡ option_map (map bare) (out-Node K V Z n).children
  bare_field n = ap (λ b. (out-Node K (Unit {0}) Z b).children) (opened n) ∙ field_made _

  bare_own : (n : Node K V Z) → own_pairs (bare n) ≡ map key_alone (own_pairs n)
  bare_own n = ap own_pairs (opened n) ∙ own_made _

  bare_children : (n : Node K V Z) → children_of (bare n) ≡ map bare (children_of n)
  bare_children n = ap items_or_none (bare_field n) ∙ items_map bare (out-Node K V Z n).children

  pub bare_size : (n : Node K V Z) → length (own_pairs (bare n)) ≡ length (own_pairs n)
  bare_size n = ap length (bare_own n) ∙ length-map (own_pairs n) key_alone

  pub bare_many : (n : Node K V Z) → length (children_of (bare n)) ≡ length (children_of n)
  bare_many n = ap length (bare_children n) ∙ length-map (children_of n) bare

  pub bare_child : (n : Node K V Z) (i : ℕ) → child_at (bare n) i ≡ bare (child_at n i)
  bare_child n i = ap (λ cs. get_or cs i (bare n)) (bare_children n) ∙ get_or-map bare (children_of n) i n

  -- of parts with the same keys
  pub bare_made : (n : Node K V Z) (ps : List (K × V)) (o : Option (List (Node K V Z))) → map key_alone ps ≡ map key_alone (own_pairs n)
      → option_map (map bare) o ≡ option_map (map bare) (out-Node K V Z n).children → bare (roll-Node K V Z (record { pairs = ps; children = o })) ≡ bare n
  bare_made n ps o p c = rolled ps o ∙ (λ i. roll-Node K (Unit {0}) Z (record { pairs = p i; children = c i })) ∙ sym (opened n)

  -- its pairs are the keys
  abbrev IsOfKeys : Node K V Z → Type 0
  IsOfKeys n = pairs_of (bare n) ≡ map key_alone (pairs_of n)

  pairs_in : (cs : List ((n : Node K V Z) × IsOfKeys n))
      → map pairs_of (map bare (map (λ e. e.0) cs)) ≡ map (map key_alone) (map pairs_of (map (λ e. e.0) cs))
  pairs_in [] = refl
  pairs_in (c ∷ cs) = (λ i. c.1 i ∷ pairs_in cs i)

  pub bare_pairs : (n : Node K V Z) → IsOfKeys n
  bare_pairs = ind-Node K V Z IsOfKeys (λ x y is.
      let n = roll-Node K V Z x in
      let cs = sym (items_map (λ e. e.0) y.children) ∙ ap (λ z. items_or_none z.children) (sym (mapped (λ e. e.0) y.pairs y.children) ∙ is)
      ∙ sym (children_made x) in
      pairs_is (bare n) ∙ (λ k. weave (map pairs_of (bare_children n k)) (bare_own n k))
      ∙ ap (λ ls. weave ls (map key_alone (own_pairs n)))
      (subst (λ ds. map pairs_of (map bare ds) ≡ map (map key_alone) (map pairs_of ds)) cs (pairs_in (items_or_none y.children)))
      ∙ weave_map key_alone (map pairs_of (children_of n)) (own_pairs n) ∙ sym (ap (map key_alone) (pairs_is n)))

  pub bare_count : (n : Node K V Z) → length (pairs_of (bare n)) ≡ length (pairs_of n)
  bare_count n = ap length (bare_pairs n) ∙ length-map (pairs_of n) key_alone

  -- its levels, both ways
  bare_leaf : (n : Node K V Z) → IsLeaf n → IsLeaf (bare n)
  bare_leaf n e = bare_field n ∙ ap (option_map (map bare)) e

  none_back : (o : Option (List (Node K V Z))) → option_map (map bare) o ≡ None → o ≡ None
  none_back None e = refl
  none_back (Some cs) e = absurd cc

  pub bare_levels : (h : ℕ) (n : Node K V Z) → IsLevelled h n → IsLevelled h (bare n)
  bare_levels zero n l = (omega (arith, bare_size n, l.0), bare_leaf n l.1)
  bare_levels (suc h) n l = (
    omega (arith, bare_size n, l.0),
    omega (arith, bare_size n, bare_many n, l.1),
    subst (AllByRecursion (IsBelow h)) (sym (bare_children n)) (all_there bare (IsBelow h) (IsBelow h)
        (λ c s. (omega (arith, bare_size c, s.0), bare_levels h c s.1)) (children_of n) l.2),
  )

  pub levels_back : (h : ℕ) (n : Node K V Z) → IsLevelled h (bare n) → IsLevelled h n
  levels_back zero n l = (omega (arith, bare_size n, l.0), none_back (out-Node K V Z n).children (sym (bare_field n) ∙ l.1))
  levels_back (suc h) n l = (
    omega (arith, bare_size n, l.0),
    omega (arith, bare_size n, bare_many n, l.1),
    all_here bare (IsBelow h) (IsBelow h) (λ c s. (omega (arith, bare_size c, s.0), levels_back h c s.1)) (children_of n)
        (subst (AllByRecursion (IsBelow h)) (bare_children n) l.2),
  )

  -- its paths, both ways
  pub bare_path : (path : List ℕ) (n : Node K V Z) → IsPath path n → IsPath path (bare n)
  bare_path [] n p = tt
  bare_path (i ∷ path) n p = (omega (arith, bare_size n, p.0), subst (IsPath path) (sym (bare_child n i)) (bare_path path (child_at n i) p.1))

  path_back : (path : List ℕ) (n : Node K V Z) → IsPath path (bare n) → IsPath path n
  path_back [] n p = tt
  path_back (i ∷ path) n p = (omega (arith, bare_size n, p.0), path_back path (child_at n i) (subst (IsPath path) (bare_child n i) p.1))

  -- how many pairs it has before a place
  all_lists : (cs : List (Node K V Z)) → map pairs_of (map bare cs) ≡ map (map key_alone) (map pairs_of cs)
  all_lists [] = refl
  all_lists (c ∷ cs) = (λ i. bare_pairs c i ∷ all_lists cs i)

  pub bare_before : (n : Node K V Z) (i : ℕ) → length (before_child (bare n) i) ≡ length (before_child n i)
  bare_before n i =
      ap length ((λ k. before_list (map pairs_of (take i (bare_children n k))) (take i (bare_own n k)))
      ∙ (λ k. before_list (map pairs_of (take-map bare i (children_of n) k)) (take-map key_alone i (own_pairs n) k))
      ∙ ap (λ ls. before_list ls (map key_alone (take i (own_pairs n)))) (all_lists (take i (children_of n)))
      ∙ before_map key_alone (map pairs_of (take i (children_of n))) (take i (own_pairs n)))
      ∙ length-map (before_child n i) key_alone

  pub bare_gap : (path : List ℕ) (n : Node K V Z) → length (before_gap path (bare n)) ≡ length (before_gap path n)
  bare_gap [] n = refl
  bare_gap (i ∷ path) n =
      let a = length-append (before_child (bare n) i) (before_gap path (child_at (bare n) i)) in
      let b = length-append (before_child n i) (before_gap path (child_at n i)) in
      let c = ap (λ b. length (before_gap path b)) (bare_child n i) ∙ bare_gap path (child_at n i) in
      let d = bare_before n i in
      omega arith

module _ {K V : Type 0} (cmp : K → K → Ordering) where
  ascending_bare : (s : List (K × V)) → IsAscending cmp s → IsAscending cmp (map key_alone s)
  ascending_bare [] a = tt
  ascending_bare (e ∷ s) a = (all_there key_alone (λ d. cmp e.0 d.0 ≡ Less) (λ d. cmp e.0 d.0 ≡ Less) (λ d l. l) s a.0, ascending_bare s a.1)

  ascending_back : (s : List (K × V)) → IsAscending cmp (map key_alone s) → IsAscending cmp s
  ascending_back [] a = tt
  ascending_back (e ∷ s) a = (all_here key_alone (λ d. cmp e.0 d.0 ≡ Less) (λ d. cmp e.0 d.0 ≡ Less) (λ d l. l) s a.0, ascending_back s a.1)

-- trees that are one without their values
module _ {K V Z : Type 0} (old new : Node K V Z) (same : bare new ≡ bare old) where
  pub same_size : length (own_pairs new) ≡ length (own_pairs old)
  same_size = sym (bare_size new) ∙ ap (λ b. length (own_pairs b)) same ∙ bare_size old

  pub same_length : length (pairs_of new) ≡ length (pairs_of old)
  same_length = sym (bare_count new) ∙ ap (λ b. length (pairs_of b)) same ∙ bare_count old

  pub same_ascending : (cmp : K → K → Ordering) → IsAscending cmp (pairs_of old) → IsAscending cmp (pairs_of new)
  same_ascending cmp a = ascending_back cmp (pairs_of new) (subst (IsAscending cmp) (sym (bare_pairs old) ∙ ap pairs_of (sym same) ∙ bare_pairs new)
      (ascending_bare cmp (pairs_of old) a))

  pub same_levels : (h : ℕ) → IsLevelled h old → IsLevelled h new
  same_levels h l = levels_back h new (subst (IsLevelled h) (sym same) (bare_levels h old l))

  pub same_root : IsSoundMap (Some old) → IsSoundMap (Some new)
  same_root s = (s.0, s.1, (omega (arith, same_size, s.2.0), same_levels s.0 s.2.1))

  -- a gap of a leaf stays one, after as many pairs
  pub same_gap : (path : List ℕ) → IsLeafGap path old → IsLeafGap path new × (length (before_gap path new) ≡ length (before_gap path old))
  same_gap path g = (
    (
      path_back path new (subst (IsPath path) (sym same) (bare_path path old g.0)),
      λ h l. g.1 h (levels_back h old (subst (IsLevelled h) same (bare_levels h new l))),
    ),
    sym (bare_gap path new) ∙ ap (λ b. length (before_gap path b)) same ∙ bare_gap path old,
  )
