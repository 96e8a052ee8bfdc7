-- Down the way to a gap, to the lowest node with a pair on one side of it, and to the gap on the other side of that pair.
use Rattle.std.proofs.Common.{◌≡◌, ℕ, zero, suc, ◌+◌, ◌-◌, ◌<◌, ◌≤◌, List, [], ◌∷◌, ◌++◌, length, take, get_or, slice_get, refl, sym, ap, subst, ◌∙◌, arith}
use Rattle.std.proofs.Common.{Option, Some, None, ◌⊎◌, inl, inr, length-append, append_assoc}
use Rattle.std.specs.Prelude.{slice_set}
use Rattle.std.proofs.lemmas.Bool.{cases_lt}
use Rattle.std.proofs.lemmas.List.{take_more, take_more_set, take-set-le, get_or-set_same, get_or-set_other}
use Rattle.fc_base.specs.Sizes.{capacity}
use Rattle.fc_tree_node.specs.declared.node.Node.{Node}
use Rattle.fc_tree_node.specs.Leaf.{leaf_at}
use Rattle.fc_tree_node.specs.LeafGap.{IsLeafGap}
use Rattle.fc_tree_node.specs.Node.{own_pairs, children_of, child_at, pairs_of, IsLevelled}
use Rattle.fc_tree_node.specs.Path.{IsPath, before_gap, after_gap}
use Rattle.fc_tree_node.specs.Place.{before_child, before_own, after_own, IsDescent, node_at}
use Rattle.fc_tree_node.specs.Tree.{Map, entries, IsSoundMap}
use Rattle.fc_tree_node.specs.TreePlace.{before_gap_in}
use Rattle.fc_tree_node.proofs.Gaps.{own_pair, before_child_pair, after_none, item_there, step_levels, descent_levels, descent_pairs, node_more, before_more}
use Rattle.fc_tree_node.proofs.Gaps.{leaf_gap, inner_gap}
use Rattle.fc_tree_node.proofs.Lists.{length_take, length_set}
use Rattle.fc_tree_node.proofs.Pairs.{child_below, leaf_children}
use Rattle.fc_tree_cursor.specs.Gap.{GoesOn, IsGapIn, LeadsTo, IsBeside, IsAbove}
use Rattle.fc_tree_cursor.proofs.Slices.{get_seam}
use Rattle.fc_tree_cursor.proofs.GapFacts.{IsAround, around_child, goes_here, goes_below, own_count, end_count, leaf_before_own, inner_length, inner_before}
use Rattle.fc_tree_node.proofs.Formed.{one_height}
use Rattle.fc_tree_node.proofs.PathSteps.{take_all}
use Rattle.fc_tree_cursor.proofs.GapFacts.{end_leaf, next_before}

-- A path with another step at a level, as far as there.
pub prefix_set : (gap mid : List ℕ) (level step : ℕ) → level < length gap → mid ≡ slice_set gap level step → take (level + 1) mid ≡ take level gap ++ step ∷ []
prefix_set gap mid level step k e = ap (take (level + 1)) e ∙ take_more_set gap level step k

pub set_length : (gap new : List ℕ) (level step : ℕ) → new ≡ slice_set gap level step → length new ≡ length gap
set_length gap new level step e = ap length e ∙ length_set gap level step

pub end_set : (gap new : List ℕ) (level step : ℕ) → level + 1 ≡ length gap → new ≡ slice_set gap level step → new ≡ take level gap ++ step ∷ []
end_set gap new level step k e =
    let long = ap length e ∙ length_set gap level step in
    sym (take_all new (level + 1) (omega arith)) ∙ prefix_set gap new level step (omega arith) e

module _ {K V : Type 0} where
  module _ {Z : Type 0} where
    -- A path with another step at a level: to the gap of a leaf, and on below a child.
    pub set_here : (gap new : List ℕ) (level step : ℕ) (n : Node K V Z) (count : ℕ) → level + 1 ≡ length gap → new ≡ slice_set gap level step
        → IsLevelled (length gap - level - 1) n → step ≤ length (own_pairs n) → (IsAround n step [] → count ≡ length (before_child n step) + 0)
        → GoesOn (take level gap) new n count
    set_here gap new level step n count k e l le counts =
        let low : length gap - level - 1 ≡ 0 = omega arith in
        let leaf = subst (λ j. IsLevelled j n) low l in
        goes_here (take level gap) new step 0 n count 0 leaf (omega (arith, ap length (leaf_children n leaf.1))) le (end_set gap new level step k e)
        (counts (leaf_gap n step leaf.1)) refl

    pub set_below : (gap mid new : List ℕ) (level step below : ℕ) (n c : Node K V Z) (count : ℕ) → level + 1 < length gap → mid ≡ slice_set gap level step
        → IsLevelled (length gap - level - 1) n → step ≤ length (own_pairs n) → c ≡ child_at n step → GoesOn (take (level + 1) mid) new c below
        → (IsAround n step (pairs_of c) → count ≡ length (before_child n step) + below) → GoesOn (take level gap) new n count
    set_below gap mid new level step below n c count k e l le is g counts =
        let high : length gap - level - 1 ≡ suc (length gap - level - 1 - 1) = omega arith in
        let inner = subst (λ j. IsLevelled j n) high l in
        let there : step < length (children_of n) = (let e : length (children_of n) ≡ length (own_pairs n) + 1 = inner.1 in omega arith) in
        goes_below (take level gap) (take (level + 1) mid) new step (suc (length gap - level - 1 - 1)) n c below count inner there
        (prefix_set gap mid level step (omega arith) e) is g (counts (around_child (suc (length gap - level - 1 - 1)) n c step inner there is))

    pub levels_below : (gap mid : List ℕ) (level i step : ℕ) (n c : Node K V Z) → mid ≡ slice_set gap level step → level + 1 < length gap
        → IsLevelled (length gap - level - 1) n → i ≤ length (own_pairs n) → c ≡ child_at n i
        → (level + 1 < length mid) × IsLevelled (length mid - (level + 1) - 1) c
    levels_below gap mid level i step n c e k l le is =
        let long = ap length e ∙ length_set gap level step in
        let s : length gap - level - 1 ≡ suc (length gap - level - 1 - 1) = omega arith in
        let t : length gap - level - 1 - 1 ≡ length mid - (level + 1) - 1 = omega arith in (
          omega arith,
          subst (IsLevelled (length mid - (level + 1) - 1)) (sym is)
              (subst (λ j. IsLevelled j (child_at n i)) t (child_below _ n i (subst (λ j. IsLevelled j n) s l) le).1),
        )

    pub way_levels : (gap : List ℕ) (h level : ℕ) (root n : Node K V Z) → IsLevelled h root → IsLeafGap gap root → LeadsTo gap root level n
        → IsLevelled (length gap - level - 1) n
    way_levels gap h level root n l g w =
        let r = descent_levels (take level gap) h root l w.1 in
        let t = length_take level gap (omega arith) in
        let long = g.1 h l in
        let s : r.0 ≡ length gap - level - 1 = omega arith in
        subst (IsLevelled (length gap - level - 1)) (sym w.2) (subst (λ j. IsLevelled j (node_at (take level gap) root)) s r.2)

    -- The first steps of a path to a gap of a leaf lead from child to child.
    upper_descent : (gap : List ℕ) (h i : ℕ) (n : Node K V Z) → IsLevelled h n → IsPath gap n → length gap ≡ h + 1 → i ≤ h → IsDescent (take i gap) n
    upper_descent gap h zero n l w e k = tt
    upper_descent [] h (suc i) n l w e k = tt
    upper_descent (j ∷ gap) zero (suc i) n l w e k = absurd (omega arith)
    upper_descent (j ∷ gap) (suc h) (suc i) n l w e k =
        (omega arith, upper_descent gap h i (child_at n j) (child_below h n j l w.0).1 w.1 (omega arith) (omega arith))

    step_within : (gap : List ℕ) (i : ℕ) (n : Node K V Z) → IsPath gap n → i < length gap → get_or gap i 0 ≤ length (own_pairs (node_at (take i gap) n))
    step_within [] i n w k = absurd (omega arith)
    step_within (j ∷ gap) zero n w k = w.0
    step_within (j ∷ gap) (suc i) n w k = step_within gap i (child_at n j) w.1 (omega arith)

    -- The way to a gap, so many steps down.
    pub record IsDown (gap : List ℕ) (root n : Node K V Z) (i : ℕ) : Type 0 where
      pub fits : i < length gap
      pub descent : IsDescent (take i gap) root
      pub node : n ≡ node_at (take i gap) root
      pub levels : IsLevelled (length gap - i - 1) n
      pub within : get_or gap i 0 ≤ length (own_pairs n)
      pub onward : before_gap (take (i + 1) gap) root ≡ before_gap (take i gap) root ++ before_child n (get_or gap i 0)

    pub down : (gap : List ℕ) (h i : ℕ) (root n : Node K V Z) → IsLevelled h root → IsLeafGap gap root → i < length gap → n ≡ node_at (take i gap) root
        → IsDown gap root n i
    down gap h i root n l g k e =
        let long = g.1 h l in
        let d = upper_descent gap h i root l g.0 long (omega arith) in
        let r = descent_levels (take i gap) h root l d in
        let t = length_take i gap (omega arith) in
        let s : r.0 ≡ length gap - i - 1 = omega arith in
        record {
          fits = k;
          descent = d;
          node = e;
          levels = subst (λ m. IsLevelled (length gap - i - 1) m) (sym e) (subst (λ j. IsLevelled j (node_at (take i gap) root)) s r.2);
          within = subst (λ m. get_or gap i 0 ≤ length (own_pairs m)) (sym e) (step_within gap i root g.0 k);
          onward = ap (λ p. before_gap p root) (take_more gap i 0 k) ∙ before_more (take i gap) (get_or gap i 0) root
              ∙ ap (λ m. before_gap (take i gap) root ++ before_child m (get_or gap i 0)) (sym e);
        }

    -- A step further, where the way does not end.
    pub down_child : (gap : List ℕ) (root n : Node K V Z) (i : ℕ) → IsDown gap root n i → i + 1 < length gap
        → (get_or gap i 0 < length (children_of n)) × (child_at n (get_or gap i 0) ≡ node_at (take (i + 1) gap) root)
    down_child gap root n i d k =
        let s : length gap - i - 1 ≡ suc (length gap - i - 1 - 1) = omega arith in
        let l = subst (λ j. IsLevelled j n) s d.levels in (
          omega arith,
          ap (λ m. child_at m (get_or gap i 0)) d.node ∙ sym (node_more (take i gap) (get_or gap i 0) root)
              ∙ ap (λ p. node_at p root) (sym (take_more gap i 0 d.fits)),
        )

  -- ---- the lowest node with a pair after the way

  module _ {Z : Type 0} where
    -- So many pairs are before the pair of the node that the way leads to at a level.
    pub record IsNextAt (gap : List ℕ) (root : Node K V Z) (best : Node K V Z) (place count : ℕ) : Type 0 where
      pub way : LeadsTo gap root place best
      pub own : get_or gap place 0 < length (own_pairs best)
      pub before : length (before_gap (take place gap) root) + length (before_own best (get_or gap place 0)) ≡ count

    -- What is known of the next pair after all of a node on the way: there is none, or it is that one.
    abbrev pub AfterWay : List ℕ → Node K V Z → Node K V Z → ℕ → Node K V Z → ℕ → Type 0
    AfterWay gap root n i best place =
        (n ≡ node_at (take i gap) root) × ((length (before_gap (take i gap) root) + length (pairs_of n) ≡ length (pairs_of root))
        ⊎ IsNextAt gap root best place (length (before_gap (take i gap) root) + length (pairs_of n)))

    pub after_step : (gap : List ℕ) (root n best best' : Node K V Z) (i place place' : ℕ) → IsDown gap root n i → i + 1 < length gap
        → AfterWay gap root n i best place
        → (0 < length (own_pairs n) - get_or gap i 0 → (best' ≡ n) × (place' ≡ i))
        → (length (own_pairs n) - get_or gap i 0 ≡ 0 → (best' ≡ best) × (place' ≡ place))
        → AfterWay gap root (child_at n (get_or gap i 0)) (i + 1) best' place'
    after_step gap root n best best' i place place' d k w here above = (d₁.1, order (cases_lt (get_or gap i 0) (length (own_pairs n))))
      where
        c : Node K V Z
        c = child_at n (get_or gap i 0)

        d₁ : (get_or gap i 0 < length (children_of n)) × (c ≡ node_at (take (i + 1) gap) root)
        d₁ = down_child gap root n i d k

        height : length gap - i - 1 ≡ suc (length gap - i - 1 - 1)
        height = omega arith

        l : IsLevelled (suc (length gap - i - 1 - 1)) n
        l = subst (λ j. IsLevelled j n) height d.levels

        lead : length (before_gap (take (i + 1) gap) root) ≡ length (before_gap (take i gap) root) + length (before_child n (get_or gap i 0))
        lead = ap length d.onward ∙ length-append (before_gap (take i gap) root) _

        order : (get_or gap i 0 < length (own_pairs n)) ⊎ (length (own_pairs n) ≤ get_or gap i 0)
            → (length (before_gap (take (i + 1) gap) root) + length (pairs_of c) ≡ length (pairs_of root))
            ⊎ IsNextAt gap root best' place' (length (before_gap (take (i + 1) gap) root) + length (pairs_of c))
        order (inl lt) =
            let s = here (omega arith) in
            let a = inner_before _ n (get_or gap i 0) l lt in
            let e = lead in
            inr (subst (λ b. IsNextAt gap root b place' (length (before_gap (take (i + 1) gap) root) + length (pairs_of c))) (sym s.0)
            (subst (λ p. IsNextAt gap root n p (length (before_gap (take (i + 1) gap) root) + length (pairs_of c))) (sym s.1)
            (record { way = (d.fits, d.descent, d.node); own = lt; before = omega (arith, a, e) })))
        order (inr ge) =
            let s = above (omega arith) in
            let a = inner_length _ n (get_or gap i 0) l d.within in
            let b = ap length (after_none n (get_or gap i 0) ge) in
            let e = lead in
            let same : length (before_gap (take i gap) root) + length (pairs_of n)
            ≡ length (before_gap (take (i + 1) gap) root) + length (pairs_of c) = omega (arith, a, b, e) in
            elim w.1 [
              | inl x ↦ inl (sym same ∙ x)
              | inr x ↦ inr (subst (λ b. IsNextAt gap root b place'
                  (length (before_gap (take (i + 1) gap) root) + length (pairs_of c))) (sym s.0)
                  (subst (λ p. IsNextAt gap root best p (length (before_gap (take (i + 1) gap) root) + length (pairs_of c))) (sym s.1)
                  (subst (λ m. IsNextAt gap root best place m) same x)))
            ]

    pub after_end : (gap : List ℕ) (root n best best' : Node K V Z) (i place place' : ℕ) → IsDown gap root n i → i + 1 ≡ length gap
        → AfterWay gap root n i best place → length (before_gap gap root) < length (pairs_of root)
        → (0 < length (own_pairs n) - get_or gap i 0 → (best' ≡ n) × (place' ≡ i))
        → (length (own_pairs n) - get_or gap i 0 ≡ 0 → (best' ≡ best) × (place' ≡ place)) → IsNextAt gap root best' place' (length (before_gap gap root))
    after_end gap root n best best' i place place' d k w some here above = order (cases_lt (get_or gap i 0) (length (own_pairs n)))
      where
        low : length gap - i - 1 ≡ 0
        low = omega arith

        l : IsLevelled 0 n
        l = subst (λ j. IsLevelled j n) low d.levels

        lead : length (before_gap gap root) ≡ length (before_gap (take i gap) root) + length (before_child n (get_or gap i 0))
        lead = ap (λ p. length (before_gap p root)) (sym (take_all gap (i + 1) k)) ∙ ap length d.onward ∙ length-append (before_gap (take i gap) root) _

        order : (get_or gap i 0 < length (own_pairs n)) ⊎ (length (own_pairs n) ≤ get_or gap i 0)
            → IsNextAt gap root best' place' (length (before_gap gap root))
        order (inl lt) =
            let s = here (omega arith) in
            let a = leaf_before_own n (get_or gap i 0) l lt in
            let e = lead in
            subst (λ b. IsNextAt gap root b place' (length (before_gap gap root))) (sym s.0)
            (subst (λ p. IsNextAt gap root n p (length (before_gap gap root))) (sym s.1)
            (record { way = (d.fits, d.descent, d.node); own = lt; before = omega (arith, a, e) }))
        order (inr ge) =
            let s = above (omega arith) in
            let a = end_leaf n (get_or gap i 0) l ge in
            let e = lead in
            let same : length (before_gap (take i gap) root) + length (pairs_of n) ≡ length (before_gap gap root) = omega (arith, a, e) in
            elim w.1 [
              | inl x ↦ absurd (omega (arith, a, e, x, some))
              | inr x ↦ subst (λ b. IsNextAt gap root b place' (length (before_gap gap root))) (sym s.0)
                  (subst (λ p. IsNextAt gap root best p (length (before_gap gap root))) (sym s.1) (subst (λ m. IsNextAt gap root best place m) same x))
            ]

    -- ---- the lowest node with a pair before the way

    pub record IsLastAt (gap : List ℕ) (root : Node K V Z) (best : Node K V Z) (place count : ℕ) : Type 0 where
      pub way : LeadsTo gap root place best
      pub own : (0 < get_or gap place 0) × (get_or gap place 0 ≤ length (own_pairs best))
      pub before : length (before_gap (take place gap) root) + length (before_own best (get_or gap place 0 - 1)) + 1 ≡ count

    abbrev pub BeforeWay : List ℕ → Node K V Z → Node K V Z → ℕ → Node K V Z → ℕ → Type 0
    BeforeWay gap root n i best place = (n ≡ node_at (take i gap) root) × ((length (before_gap (take i gap) root) ≡ 0)
        ⊎ IsLastAt gap root best place (length (before_gap (take i gap) root)))

    -- what is before the way a step further down
    further : (gap : List ℕ) (root n best best' : Node K V Z) (i place place' : ℕ) → IsDown gap root n i
        → (length (before_gap (take i gap) root) ≡ 0) ⊎ IsLastAt gap root best place (length (before_gap (take i gap) root))
        → (0 < get_or gap i 0 → (best' ≡ n) × (place' ≡ i)) → (get_or gap i 0 ≡ 0 → (best' ≡ best) × (place' ≡ place))
        → (length (before_gap (take (i + 1) gap) root) ≡ 0) ⊎ IsLastAt gap root best' place' (length (before_gap (take (i + 1) gap) root))
    further gap root n best best' i place place' d w here above = order (cases_lt 0 (get_or gap i 0))
      where
        lead : length (before_gap (take (i + 1) gap) root) ≡ length (before_gap (take i gap) root) + length (before_child n (get_or gap i 0))
        lead = ap length d.onward ∙ length-append (before_gap (take i gap) root) _

        order : (0 < get_or gap i 0) ⊎ (get_or gap i 0 ≤ 0) → (length (before_gap (take (i + 1) gap) root) ≡ 0)
            ⊎ IsLastAt gap root best' place' (length (before_gap (take (i + 1) gap) root))
        order (inl lt) =
            let s = here lt in
            let j = get_or gap i 0 - 1 in
            let le = d.within in
            let there : get_or gap i 0 - 1 < length (own_pairs n) = omega arith in
            let x = (item_there (own_pairs n) j there).0 in
            let same : get_or gap i 0 ≡ suc (get_or gap i 0 - 1) = omega arith in
            let a : length (before_child n (get_or gap i 0)) ≡ length (before_own n (get_or gap i 0 - 1)) + 1 = ap (λ m. length (before_child n m)) same
            ∙ ap length (before_child_pair _ n j x d.levels there) ∙ length-append (before_own n j) _ in
            let e = lead in
            inr (subst (λ b. IsLastAt gap root b place' (length (before_gap (take (i + 1) gap) root))) (sym s.0)
            (subst (λ p. IsLastAt gap root n p (length (before_gap (take (i + 1) gap) root))) (sym s.1)
            (record { way = (d.fits, d.descent, d.node); own = (lt, le); before = omega (arith, a, e) })))
        order (inr ge) =
            let z : get_or gap i 0 ≡ 0 = omega arith in
            let s = above z in
            let a : length (before_child n (get_or gap i 0)) ≡ 0 = ap (λ m. length (before_child n m)) z in
            let e = lead in
            let same : length (before_gap (take i gap) root) ≡ length (before_gap (take (i + 1) gap) root) = omega (arith, a, e) in
            elim w [
              | inl x ↦ inl (sym same ∙ x)
              | inr x ↦ inr (subst (λ b. IsLastAt gap root b place' (length (before_gap (take (i + 1) gap) root))) (sym s.0)
                  (subst (λ p. IsLastAt gap root best p (length (before_gap (take (i + 1) gap) root))) (sym s.1)
                  (subst (λ m. IsLastAt gap root best place m) same x)))
            ]

    pub before_step : (gap : List ℕ) (root n best best' : Node K V Z) (i place place' : ℕ) → IsDown gap root n i → i + 1 < length gap
        → BeforeWay gap root n i best place
        → (0 < get_or gap i 0 → (best' ≡ n) × (place' ≡ i)) → (get_or gap i 0 ≡ 0 → (best' ≡ best) × (place' ≡ place))
        → BeforeWay gap root (child_at n (get_or gap i 0)) (i + 1) best' place'
    before_step gap root n best best' i place place' d k w here above = (
      (down_child gap root n i d k).1,
      further gap root n best best' i place place' d w.1 here above,
    )

    pub before_end : (gap : List ℕ) (root n best best' : Node K V Z) (i place place' : ℕ) → IsDown gap root n i → i + 1 ≡ length gap
        → BeforeWay gap root n i best place → 0 < length (before_gap gap root)
        → (0 < get_or gap i 0 → (best' ≡ n) × (place' ≡ i)) → (get_or gap i 0 ≡ 0 → (best' ≡ best) × (place' ≡ place))
        → IsLastAt gap root best' place' (length (before_gap gap root))
    before_end gap root n best best' i place place' d k w some here above =
        let same = ap (λ p. length (before_gap p root)) (take_all gap (i + 1) k) in
        elim (further gap root n best best' i place place' d w.1 here above)
        [ inl x ↦ absurd (omega (arith, same, x, some)) | inr x ↦ subst (λ m. IsLastAt gap root best' place' m) same x ]

    -- ---- the gap on the other side of the pair

    pub same_root : (m : Map K V Z) (n r : Node K V Z) → m ≡ Some n → m ≡ Some r → n ≡ r
    same_root m n r a b = let e : Some n ≡ Some r = sym a ∙ b in cc

    along : (s path : List ℕ) (h : ℕ) (root : Node K V Z) → IsLevelled h root → IsDescent s root → IsLeafGap path (node_at s root)
        → IsLeafGap (s ++ path) root × (length (before_gap (s ++ path) root) ≡ length (before_gap s root) + length (before_gap path (node_at s root)))
    along [] path h root l d w = (w, omega arith)
    along (i ∷ s) path h root l d w =
        let t = step_levels h root i l d.0 in
        let c = child_at root i in
        let r = along s path t.0 c t.2 d.1 w in
        let a = length-append (before_child root i) (before_gap (s ++ path) c) in
        let b = length-append (before_child root i) (before_gap s c) in
        let e = r.1 in
        let u = r.0.1 t.0 t.2 in
        (((t.3, r.0.0), λ k m. let o = one_height k h root m l in omega arith), omega (arith, a, b, e))

    -- The gap that goes on from a node on the way, in the map.
    went : (gap new : List ℕ) (h level count : ℕ) (root n : Node K V Z) → IsLevelled h root → LeadsTo gap root level n
        → (g : GoesOn (take level gap) new n count)
        → IsLeafGap new root × (length (before_gap new root) ≡ length (before_gap (take level gap) root) + count)
    went gap new h level count root n l w g =
        let r = along (take level gap) g.0 h root l w.1 (subst (IsLeafGap g.0) w.2 g.2) in
        let e = ap (λ m. length (before_gap g.0 m)) w.2 in
        let a = r.1 in
        let b = g.3 in
        let s = ap (λ p. length (before_gap p root)) g.1 in
        (subst (λ p. IsLeafGap p root) (sym g.1) r.0, omega (arith, a, b, e, s))

    -- The own pair of a node on the way, among the map's.
    own_get : (gap : List ℕ) (h level i : ℕ) (root n : Node K V Z) (x : K × V) → IsLevelled h root → LeadsTo gap root level n → i < length (own_pairs n)
        → x ≡ get_or (own_pairs n) i x → slice_get (pairs_of root) (length (before_gap (take level gap) root) + length (before_own n i)) ≡ Some x
    own_get gap h level i root n x l w k e =
        let s = take level gap in
        let r = descent_levels s h root l w.1 in
        let m = node_at s root in
        let k' : i < length (own_pairs m) = subst (λ d. i < length (own_pairs d)) w.2 k in
        let inner = own_pair r.0 m i x r.2 k' in
        let all = descent_pairs s h root l w.1 ∙ ap (λ zs. before_gap s root ++ (zs ++ after_gap s root)) inner in
        ap (λ d. slice_get (pairs_of root) (length (before_gap s root) + length (before_own d i))) w.2
        ∙ ap (λ zs. slice_get zs (length (before_gap s root) + length (before_own m i))) all
        ∙ seam (before_gap s root) (before_own m i) (after_own m i) (after_gap s root) (get_or (own_pairs m) i x)
        ∙ ap Some (ap (λ d. get_or (own_pairs d) i x) (sym w.2) ∙ sym e)
      where
        regroup : (a b c d : List (K × V)) (y : K × V) → a ++ ((b ++ y ∷ c) ++ d) ≡ (a ++ b) ++ y ∷ (c ++ d)
        regroup a b c d y = simp append_assoc

        seam : (a b c d : List (K × V)) (y : K × V) → slice_get (a ++ ((b ++ y ∷ c) ++ d)) (length a + length b) ≡ Some y
        seam a b c d y = ap (slice_get (a ++ ((b ++ y ∷ c) ++ d))) (sym (length-append a b)) ∙ ap (λ zs. slice_get zs (length (a ++ b))) (regroup a b c d y)
            ∙ get_seam (a ++ b) (c ++ d) y

    -- The levels of a node on the way, in a map.
    pub levels_in : (m : Map K V Z) (root n : Node K V Z) (gap : List ℕ) (level : ℕ) → m ≡ Some root → IsSoundMap m → IsGapIn m gap → LeadsTo gap root level n
        → IsLevelled (length gap - level - 1) n
    levels_in None root n gap level is o g w = absurd cc
    levels_in (Some r) root n gap level is o g w =
        let same : root ≡ r = cc in
        way_levels gap o.0 level r n o.2.1 g (subst (λ d. LeadsTo gap d level n) same w)

    pub record IsPassed (m : Map K V Z) (gap new : List ℕ) (x : K × V) : Type 0 where
      pub slot : IsGapIn m new
      pub step : length (before_gap_in m new) ≡ length (before_gap_in m gap) + 1
      pub pair : slice_get (entries m) (length (before_gap_in m gap)) ≡ Some x

    pub passed_next : (m : Map K V Z) (root best : Node K V Z) (gap new : List ℕ) (place : ℕ) (x : K × V) → m ≡ Some root → IsSoundMap m
        → IsNextAt gap root best place (length (before_gap gap root)) → x ≡ get_or (own_pairs best) (get_or gap place 0) x
        → GoesOn (take place gap) new best (length (before_own best (get_or gap place 0)) + 1) → IsPassed m gap new x
    passed_next None root best gap new place x is o n e g = absurd cc
    passed_next (Some r) root best gap new place x is o n e g =
        let same : root ≡ r = cc in
        let l = subst (IsLevelled o.0) (sym same) o.2.1 in
        let w = went gap new o.0 place _ root best l n.way g in
        let a = n.before in
        subst (λ d. IsPassed (Some d) gap new x) same (record {
          slot = w.0;
          step = omega arith;
          pair = ap (slice_get (pairs_of root)) (sym a)
              ∙ own_get gap o.0 place (get_or gap place 0) root best x l n.way n.own e;
        })

    pub record IsPassedBack (m : Map K V Z) (gap new : List ℕ) (x : K × V) : Type 0 where
      pub slot : IsGapIn m new
      pub step : length (before_gap_in m new) + 1 ≡ length (before_gap_in m gap)
      pub pair : slice_get (entries m) (length (before_gap_in m new)) ≡ Some x

    pub passed_back : (m : Map K V Z) (root best : Node K V Z) (gap new : List ℕ) (place : ℕ) (x : K × V) → m ≡ Some root → IsSoundMap m
        → IsLastAt gap root best place (length (before_gap gap root)) → x ≡ get_or (own_pairs best) (get_or gap place 0 - 1) x
        → GoesOn (take place gap) new best (length (before_own best (get_or gap place 0 - 1))) → IsPassedBack m gap new x
    passed_back None root best gap new place x is o n e g = absurd cc
    passed_back (Some r) root best gap new place x is o n e g =
        let same : root ≡ r = cc in
        let l = subst (IsLevelled o.0) (sym same) o.2.1 in
        let w = went gap new o.0 place _ root best l n.way g in
        subst (λ d. IsPassedBack (Some d) gap new x) same (record {
          slot = w.0;
          step = omega arith;
          pair = ap (slice_get (pairs_of root)) w.1
              ∙ own_get gap o.0 place (get_or gap place 0 - 1) root best x l n.way (omega arith) e;
        })

    pub leaf_node : (gap : List ℕ) (level : ℕ) (n : Node K V Z) → level + 1 ≡ length gap → leaf_at gap n ≡ node_at (take level gap) n
    leaf_node [] level n e = absurd (omega arith)
    leaf_node (i ∷ []) zero n e = refl
    leaf_node (i ∷ []) (suc level) n e = absurd (omega arith)
    leaf_node (i ∷ j ∷ gap) zero n e = absurd (omega arith)
    leaf_node (i ∷ j ∷ gap) (suc level) n e = leaf_node (j ∷ gap) level (child_at n i) (omega arith)

  -- ---- the leaf of a gap, and the node above it

  module _ {Z : Type 0} where
    -- It is above another gap of the leaf too.
    pub above_beside : (m : Map K V Z) (gap new : List ℕ) (above : Option (Node K V Z)) → IsBeside gap new → IsAbove m gap above → IsAbove m new above
    above_beside m gap new None s w root is = tt
    above_beside m gap new (Some n) s w root is =
        let long = ap length s.1 ∙ length_set gap (length gap - 1) s.0 in
        let same : length gap - 1 - 1 ≡ length new - 1 - 1 = omega arith in
        let v = w root is in (
          omega (arith, long, v.0),
          v.1 ∙ ap (λ p. node_at p root) (sym (take-set-le (length gap - 1 - 1) gap (length gap - 1) s.0 (omega arith))
              ∙ ap (take (length gap - 1 - 1)) (sym s.1) ∙ ap (λ k. take k new) same),
        )

    -- The way to the node above the leaf of a gap, and on to the leaf.
    pub record IsNear (m : Map K V Z) (gap : List ℕ) (n : Node K V Z) : Type 0 where
      pub root : Node K V Z
      pub is : m ≡ Some root
      pub level : ℕ
      pub long : level + 2 ≡ length gap
      pub way : IsDown gap root n level
      pub leaf : IsDown gap root (child_at n (get_or gap level 0)) (level + 1)
      pub levels : IsLevelled 1 n

    near : (m : Map K V Z) (gap : List ℕ) (n : Node K V Z) → IsSoundMap m → IsGapIn m gap → IsAbove m gap (Some n) → 0 < length (entries m) → IsNear m gap n
    near None gap n o g a k = absurd (omega arith)
    near (Some root) gap n o g a k =
        let b = a root refl in
        let d = down gap o.0 (length gap - 1 - 1) root n o.2.1 g (omega arith) b.1 in
        let c = down_child gap root n (length gap - 1 - 1) d (omega arith) in
        let low : length gap - (length gap - 1 - 1) - 1 ≡ 1 = omega arith in
        record {
          root = root;
          is = refl;
          level = length gap - 1 - 1;
          long = omega arith;
          way = d;
          leaf =
              down gap o.0 (length gap - 1 - 1 + 1) root _ o.2.1 g (omega arith) c.1;
          levels = subst (λ h. IsLevelled h n) low d.levels;
        }

    -- The same by the last steps as they are read.
    pub record IsNearStep (m : Map K V Z) (gap : List ℕ) (n : Node K V Z) (last place : ℕ) : Type 0 where
      pub way : IsNear m gap n
      pub above : last - 1 ≡ way.level
      pub end : last ≡ way.level + 1
      pub step : place ≡ get_or gap way.level 0
      pub within : place ≤ length (own_pairs n)
      pub inner : length (children_of n) ≡ length (own_pairs n) + 1
      pub fits : length (own_pairs n) ≤ capacity

    pub near_step : (m : Map K V Z) (gap : List ℕ) (n : Node K V Z) (last place : ℕ) → IsSoundMap m → IsGapIn m gap → IsAbove m gap (Some n)
        → 0 < length (entries m)
        → last ≡ length gap - 1 → place ≡ get_or gap (last - 1) 0 → IsNearStep m gap n last place
    near_step m gap n last place o g a some e f =
        let x = near m gap n o g a some in
        let above : last - 1 ≡ x.level = omega arith in
        let step = f ∙ ap (λ k. get_or gap k 0) above in
        let within = x.way.within in
        record { way = x; above = above; end = omega arith; step = step; within = omega arith; inner = x.levels.1; fits = x.levels.0 }

    module _ (m : Map K V Z) (gap mid new : List ℕ) (n : Node K V Z) (x : IsNear m gap n) where
      before_way : length (before_gap gap x.root) ≡ length (before_gap (take x.level gap) x.root) + length (before_child n (get_or gap x.level 0))
          + length (before_child (child_at n (get_or gap x.level 0)) (get_or gap (x.level + 1) 0))
      before_way =
          let a = ap length x.way.onward ∙ length-append (before_gap (take x.level gap) x.root) _ in
          let b = ap (λ p. length (before_gap p x.root)) (sym (take_all gap (x.level + 1 + 1) (let l = x.long in omega (arith, l)))) ∙ ap length x.leaf.onward
          ∙ length-append (before_gap (take (x.level + 1) gap) x.root) _ in
          omega (arith, a, b)

      -- Where the last two steps are others, the node is still the one above, and the leaf is another child of it.
      pub near_leaf : (i j : ℕ) → mid ≡ slice_set gap x.level i → new ≡ slice_set mid (x.level + 1) j
          → IsAbove m new (Some n) × ((root : Node K V Z) → m ≡ Some root → child_at n i ≡ leaf_at new root)
      near_leaf i j e f = (
        λ root is. (omega (arith, long, x.long), up root is ∙ ap (λ k. node_at (take k new) root) (let l = x.long in omega (arith, long, l))),
        λ root is. leaf root is,
      )
        where
          long : length new ≡ length gap
          long = set_length mid new (x.level + 1) j f ∙ set_length gap mid x.level i e

          up : (root : Node K V Z) → m ≡ Some root → n ≡ node_at (take x.level new) root
          up root is =
              let same : x.root ≡ root = (let both : Some x.root ≡ Some root = sym x.is ∙ is in cc) in
              x.way.node ∙ ap (node_at (take x.level gap)) same ∙ ap (λ p. node_at p root)
              (sym (take-set-le x.level gap x.level i (omega arith)) ∙ ap (take x.level) (sym e)
              ∙ sym (take-set-le x.level mid (x.level + 1) j (omega arith)) ∙ ap (take x.level) (sym f))

          step : get_or new x.level 0 ≡ i
          step = ap (λ p. get_or p x.level 0) f ∙ get_or-set_other mid (x.level + 1) x.level j 0 (λ z. absurd (omega (arith, z)))
              ∙ ap (λ p. get_or p x.level 0) e ∙ get_or-set_same gap x.level i 0 (let l = x.long in omega (arith, l))

          leaf : (root : Node K V Z) → m ≡ Some root → child_at n i ≡ leaf_at new root
          leaf root is =
              sym (leaf_node new (x.level + 1) root (let l = x.long in omega (arith, long, l))
              ∙ ap (λ p. node_at p root) (take_more new x.level 0 (let l = x.long in omega (arith, long, l)))
              ∙ node_more (take x.level new) (get_or new x.level 0) root
              ∙ ap (λ d. child_at d (get_or new x.level 0)) (sym (up root is)) ∙ ap (child_at n) step)

      -- On over the node's own pair after the leaf, to the next leaf.
      pub near_next : IsSoundMap m → (y : K × V) → get_or gap x.level 0 < length (own_pairs n)
          → length (own_pairs (child_at n (get_or gap x.level 0))) ≤ get_or gap (x.level + 1) 0
          → mid ≡ slice_set gap x.level (get_or gap x.level 0 + 1) → new ≡ slice_set mid (x.level + 1) 0 → y ≡ get_or (own_pairs n) (get_or gap x.level 0) y
          → IsPassed m gap new y
      near_next o y own end e f is =
          let i = get_or gap x.level 0 in
          let l = x.levels in
          let long = x.long in
          let d = end_leaf (child_at n i) (get_or gap (x.level + 1) 0) (child_below 0 n i l x.way.within).1 end in
          let next = (child_below 0 n (i + 1) l (omega arith)).1 in
          let at : IsNextAt gap x.root n x.level (length (before_gap gap x.root)) = record {
            way = (x.way.fits, x.way.descent, x.way.node);
            own = own;
            before =
                omega (arith, before_way, inner_before 0 n i l own, d);
          } in
          passed_next m x.root n gap new x.level y x.is o at is
          (goes_below (take x.level gap) (take (x.level + 1) mid) new (i + 1) 1 n (child_at n (i + 1)) 0 _ l (omega arith)
          (prefix_set gap mid x.level _ x.way.fits e) refl
          (goes_here (take (x.level + 1) mid) new 0 0 (child_at n (i + 1)) 0 0 next (omega (arith, ap length (leaf_children _ next.1))) (omega arith)
          (end_set mid new (x.level + 1) 0 (omega (arith, long, set_length gap mid x.level _ e)) f) refl refl) (omega (arith, next_before 1 n i l own)))

      -- Back over the node's own pair before the leaf, to the leaf before.
      pub near_back : IsSoundMap m → (y : K × V) → 0 < get_or gap x.level 0 → get_or gap (x.level + 1) 0 ≡ 0
          → mid ≡ slice_set gap x.level (get_or gap x.level 0 - 1) → new
          ≡ slice_set mid (x.level + 1) (length (own_pairs (child_at n (get_or gap x.level 0 - 1)))) → y ≡ get_or (own_pairs n) (get_or gap x.level 0 - 1) y
          → IsPassedBack m gap new y
      near_back o y some end e f is =
          let i = get_or gap x.level 0 in
          let j = i - 1 in
          let c = child_at n j in
          let l = x.levels in
          let long = x.long in
          let le = x.way.within in
          let there : j < length (own_pairs n) = omega arith in
          let same : i ≡ j + 1 = omega arith in
          let b = ap (λ k. length (before_child n k)) same ∙ next_before 1 n j l there in
          let d = ap (λ k. length (before_child (child_at n i) k)) end in
          let last = (child_below 0 n j l (omega arith)).1 in
          let at : IsLastAt gap x.root n x.level (length (before_gap gap x.root)) = record {
            way = (x.way.fits, x.way.descent, x.way.node);
            own =
                (some, le);
            before = omega (arith, before_way, b, d);
          } in
          passed_back m x.root n gap new x.level y x.is o at is
          (goes_below (take x.level gap) (take (x.level + 1) mid) new j 1 n c _ _ l (omega arith) (prefix_set gap mid x.level _ x.way.fits e) refl
          (goes_here (take (x.level + 1) mid) new (length (own_pairs c)) 0 c _ 0 last (omega (arith, ap length (leaf_children c last.1))) (omega arith)
          (end_set mid new (x.level + 1) _ (omega (arith, long, set_length gap mid x.level _ e)) f) (end_count c _ [] (omega arith) (leaf_gap c _ last.1))
          refl)
          (own_count 1 n j (pairs_of c) l there (inner_gap n j l.1 (omega arith))))
