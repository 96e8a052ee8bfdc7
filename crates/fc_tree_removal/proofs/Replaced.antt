-- A node in which a pair was put in the place of another one.
use Rattle.std.proofs.Common.{◌≡◌, ℕ, suc, zero, ◌+◌, ◌<◌, ◌↔◌, List, ◌∷◌, ◌++◌, length, get_or, map, take, drop, sym, ap, subst, ◌∙◌, arith, append_assoc}
use Rattle.std.specs.Prelude.{slice_set, slice_range}
use Rattle.std.proofs.lemmas.List.{take-set, drop-set-lt, get_or-set_same}
use Rattle.std.specs.List.{AllByRecursion}
use Rattle.fc_tree_node.specs.Weave.{weave}
use Rattle.fc_tree_node.specs.declared.node.Node.{Node}
use Rattle.fc_tree_node.specs.Node.{own_pairs, children_of, child_at, pairs_of, IsLeaf, IsInner, IsLevelled, IsSound}
use Rattle.fc_tree_node.specs.Place.{before_child, after_child, before_own, after_own, before_pair, after_pair}
use Rattle.fc_tree_node.proofs.Lists.{length_set}
use Rattle.fc_tree_node.proofs.Lent.{IsReplaced}
use Rattle.fc_tree_node.proofs.Gaps.{own_pair}
use Rattle.fc_tree_removal.proofs.Removed.{IsPlaceStep}

module _ {K V : Type 0} where
  module _ {Z : Type 0} where
    -- A node with another pair of its own at a place.
    pub record IsPairSet (old new : Node K V Z) (i : ℕ) (pair : K × V) : Type 0 where
      pub pairs : own_pairs new ≡ slice_set (own_pairs old) i pair
      pub children : children_of new ≡ children_of old
      pub leaf : IsLeaf new ↔ IsLeaf old

    pub set_size : (old new : Node K V Z) (i : ℕ) (pair : K × V) → IsPairSet old new i pair → length (own_pairs new) ≡ length (own_pairs old)
    set_size old new i pair s = ap length s.pairs ∙ length_set (own_pairs old) i pair

    pub set_levels : (h : ℕ) (old new : Node K V Z) (i : ℕ) (pair : K × V) → IsPairSet old new i pair → IsLevelled h old → IsLevelled h new
    set_levels zero old new i pair s l = let e = set_size old new i pair s in (omega (arith, l.0), s.leaf.1 l.1)
    set_levels (suc h) old new i pair s l =
        let e = set_size old new i pair s in
        let f = ap length s.children in
        (omega (arith, l.0), omega arith, subst (AllByRecursion (IsSound h)) (sym s.children) l.2)

    pub set_pairs : (h : ℕ) (old new : Node K V Z) (i : ℕ) (pair : K × V) → IsPairSet old new i pair → IsLevelled h old → i < length (own_pairs old)
        → pairs_of new ≡ before_own old i ++ pair ∷ after_own old i
    set_pairs h old new i pair s l lt =
        let e = set_size old new i pair s in
        let own = own_pairs old in
        let part : List (Node K V Z) → List (K × V) → List (K × V) = λ cs ps. weave (map pairs_of cs) ps in
        let before : before_own new i ≡ before_own old i = ap (λ cs. part (take (suc i) cs) (take i (own_pairs new))) s.children
        ∙ ap (part (take (suc i) (children_of old))) (ap (take i) s.pairs ∙ take-set own i pair) in
        let after : after_own new i ≡ after_own old i = ap (λ cs. part (drop (suc i) cs) (drop (suc i) (own_pairs new))) s.children
        ∙ ap (part (drop (suc i) (children_of old))) (ap (drop (suc i)) s.pairs ∙ drop-set-lt (suc i) own i pair (omega arith)) in
        let here : get_or (own_pairs new) i pair ≡ pair = ap (λ ps. get_or ps i pair) s.pairs ∙ get_or-set_same own i pair pair lt in
        own_pair h new i pair (set_levels h old new i pair s l) (omega arith)
        ∙ ap (λ zs. zs ++ get_or (own_pairs new) i pair ∷ after_own new i) before
        ∙ ap (λ p. before_own old i ++ p ∷ after_own new i) here
        ∙ ap (λ zs. before_own old i ++ pair ∷ zs) after

  regroup : (x y z u : List (K × V)) (p : K × V) → x ++ ((y ++ p ∷ z) ++ u) ≡ (x ++ y) ++ p ∷ (z ++ u)
  regroup x y z u p = simp append_assoc

  module _ {Z : Type 0} where
    pub below_pairs : (p : List ℕ) (old mid child c : Node K V Z) (pair : K × V) → IsPlaceStep p old → IsInner old → IsReplaced old mid (get_or p 0 0) c
        → child ≡ child_at old (get_or p 0 0)
        → pairs_of c ≡ before_pair (slice_range p 1 (length p)) child ++ pair ∷ after_pair (slice_range p 1 (length p)) child
        → pairs_of mid ≡ before_pair p old ++ pair ∷ after_pair p old
    below_pairs p old mid child c pair s inner m ci e =
        let i = get_or p 0 0 in let q = slice_range p 1 (length p) in
        let k : length (children_of old) ≡ length (own_pairs old) + 1 = inner in
        let a = before_pair q (child_at old i) in let b = after_pair q (child_at old i) in
        m.pairs inner (omega arith) ∙ ap (λ zs. before_child old i ++ (zs ++ after_child old i))
        (e ∙ ap (λ n. before_pair q n ++ pair ∷ after_pair q n) ci)
        ∙ regroup (before_child old i) a b (after_child old i) pair
        ∙ ap (λ zs. zs ++ pair ∷ (b ++ after_child old i)) (sym s.before) ∙ ap (λ zs. before_pair p old ++ pair ∷ zs) (sym s.after)
