-- A walk over the pairs of a node between two gaps, of which some do not stay.
use Rattle.std.proofs.Common.{◌≡◌, ℕ, suc, ◌+◌, ◌<◌, ◌≤◌, List, [], ◌∷◌, ◌++◌, length, get_or, take, drop, refl, sym, ap, subst, ◌∙◌, arith}
use Rattle.std.proofs.Common.{append_assoc, append-nil, inl, inr, ◌⊎◌}
use Rattle.std.specs.Prelude.{Bool}
use Rattle.std.specs.List.{AllByRecursion}
use Rattle.std.proofs.lemmas.List.{length-append, length-drop, drop-drop}
use Rattle.fc_tree_node.specs.declared.node.Node.{Node}
use Rattle.fc_tree_node.specs.Node.{own_pairs, children_of, child_at, pairs_of, IsLeaf, IsInner, IsLevelled, IsSound}
use Rattle.fc_tree_node.specs.Path.{before_gap, after_gap}
use Rattle.fc_tree_node.specs.Place.{before_child, after_child}
use Rattle.fc_tree_node.proofs.Lists.{length_take, take_drop, all_both, all_front, all_drop, all_each}
use Rattle.fc_tree_node.proofs.Pairs.{leaf_pairs, child_below}
use Rattle.fc_tree_node.proofs.Lent.{IsAbove, above, IsReplaced}
use Rattle.fc_tree_node.proofs.Gaps.{drop_item, cut_item, inner_gap}
use Rattle.fc_tree_removal.proofs.Removed.{none_leaf}
use Rattle.fc_tree_retain.specs.Rebalancing.{IsUnderfull}
use Rattle.fc_tree_retain.specs.Retained.{RetainsInTurn}
use Rattle.fc_tree_retain.specs.Filtered.{IsPassed}
use Rattle.fc_tree_cursor.specs.Ends.{AreInOrder, IsEnd}
use Rattle.fc_tree_cursor.proofs.PathEnds.{order_onward, end_inside, ends_order, end_below, front_parts, back_parts, leaf_front, leaf_back}
use Rattle.fc_tree_retain.specs.Stretch.{IsLeafRangeFiltered, IsRangeFiltered, IsUnderfullWithin}
use Rattle.fc_tree_retain.proofs.Levels.{levelled_underfull}
use Rattle.fc_tree_retain.proofs.Lists.{take_place, drop_place}
use Rattle.fc_tree_retain.proofs.Opened.{IsOpenAt, open_child, open_after, open_inner}
use Rattle.fc_tree_retain.proofs.Passing.{IsChildLeft, child_left}
use Rattle.fc_tree_retain.proofs.Turns.{retains_join, retains_none}

module _ {K V Z : Type 0} where
  pub level_above : (h : ℕ) (n : Node K V Z) → (IsLeaf n → ⊥) → IsLevelled h n → IsAbove IsLevelled h n
  level_above h n f = above IsLevelled h n (λ l. f l.1)

  -- two ends in a node with children, and the places where they begin
  pub record AreEnds (h : ℕ) (front back : List ℕ) (n : Node K V Z) (i j : ℕ) : Type 0 where
    pub below : ℕ
    pub height : h ≡ suc below
    pub levels : IsLevelled (suc below) n
    pub front_end : IsEnd (suc below) front n
    pub back_end : IsEnd (suc below) back n
    pub first : i ≡ get_or front 0 0
    pub last : j ≡ get_or back 0 (length (own_pairs n))
    pub order : i ≤ j
    pub inside : j ≤ length (own_pairs n)

  pub ends_above : (h : ℕ) (front back : List ℕ) (n : Node K V Z) (i j m : ℕ) → (IsLeaf n → ⊥) → IsLevelled h n → IsEnd h front n → IsEnd h back n
      → AreInOrder front back → i ≡ get_or front 0 0 → j ≡ get_or back 0 m → m ≡ length (own_pairs n) → AreEnds h front back n i j
  ends_above h front back n i j m up l ef eb o ei ej em =
      let a = level_above h n up l in
      let last : j ≡ get_or back 0 (length (own_pairs n)) = ej ∙ ap (get_or back 0) em in
      let le = ends_order h front back n ef o in
      let inside = end_inside h back n (length (own_pairs n)) eb (omega arith) in
      record {
        below = a.below;
        height = a.height;
        levels = a.levels;
        front_end = subst (λ k. IsEnd k front n) a.height ef;
        back_end = subst (λ k. IsEnd k back n) a.height eb;
        first = ei;
        last = last;
        order = omega arith;
        inside = omega arith;
      }

module _ {S K V Z : Type 0} (R : S → K × V → S → V → Bool → Type 0) where
  pub seam_stretch : (s t : S) (front back : List ℕ) (old mid new : Node K V Z) → IsRangeFiltered R s t front back old mid → pairs_of new ≡ pairs_of mid
      → IsRangeFiltered R s t front back old new
  seam_stretch s t front back old mid new e q =
      record { asked = e.asked; stay = e.stay; filtered = e.filtered; before = e.before; after = q ∙ e.after }

  pub leaf_stretch : (h : ℕ) (s t : S) (front back : List ℕ) (i j : ℕ) (old new : Node K V Z) → IsLeaf old → IsLeaf new → IsLevelled h old → IsEnd h front old
      → IsEnd h back old → i ≡ get_or front 0 0 → j ≡ get_or back 0 (length (own_pairs old)) → IsLeafRangeFiltered R s t i j (own_pairs old) (own_pairs new)
      → IsRangeFiltered R s t front back old new
  leaf_stretch h s t front back i j old new l l' lev ef eb ei ej p =
      let z = none_leaf h old l lev in
      let f : take i (own_pairs old) ≡ before_gap front old = ap (λ k. take k (own_pairs old)) ei
      ∙ sym (leaf_front front old l (subst (λ k. IsEnd k front old) z ef)) in
      let b : drop j (own_pairs old) ≡ after_gap back old = ap (λ k. drop k (own_pairs old)) ej
      ∙ sym (leaf_back back old l (subst (λ k. IsEnd k back old) z eb)) in
      record {
        asked = p.asked;
        stay = p.stay;
        filtered = p.filtered;
        before = leaf_pairs old l ∙ p.before ∙ ap (λ xs. xs ++ (p.asked ++ drop j (own_pairs old))) f ∙ ap (λ ys. before_gap front old ++ (p.asked ++ ys)) b;
        after = leaf_pairs new l' ∙ p.after ∙ ap (λ xs. xs ++ (p.stay ++ drop j (own_pairs old))) f ∙ ap (λ ys. before_gap front old ++ (p.stay ++ ys)) b;
      }

  -- the pairs after the first gap and before a child were asked; below that child, which was so many children further, a path leads to where it goes on
  pub record IsStretching (s t : S) (front : List ℕ) (old now : Node K V Z) (front_rest : List ℕ) (first counter at : ℕ) : Type 0 where
    pub seen : List (K × V)
    pub stay : List (K × V)
    pub filters : RetainsInTurn R s seen t stay
    pub old_is : (ys : List (K × V)) → pairs_of (child_at old counter) ≡ before_gap front_rest (child_at old counter) ++ ys
        → pairs_of old ≡ before_gap front old ++ (seen ++ (ys ++ after_child old counter))
    pub front_is : before_child now at ++ before_gap front_rest (child_at old counter) ≡ before_gap front old ++ stay
    pub done : List (Node K V Z)
    pub children : children_of now ≡ (take first (children_of old) ++ done) ++ drop counter (children_of old)
    pub place : length (take first (children_of old) ++ done) ≡ at
    pub own_done : List (K × V)
    pub own : own_pairs now ≡ own_done ++ drop counter (own_pairs old)
    pub own_place : length own_done ≡ at
    pub later : first ≤ at
    pub few : at ≤ counter
    pub inside : counter ≤ length (own_pairs old)
    pub inner : IsInner old
    pub levels : (h : ℕ) → IsLevelled (suc h) old → AllByRecursion (IsUnderfull h) done
    pub onward : (front_rest ≡ []) ⊎ ((counter ≡ first) × (front_rest ≡ drop 1 front))

  pub stretching_start : (s : S) (front : List ℕ) (old : Node K V Z) (first : ℕ) → IsInner old → first ≤ length (own_pairs old) → first ≡ get_or front 0 0
      → IsStretching s s front old old (drop 1 front) first first first
  stretching_start s front old first inner le e =
      let cs = children_of old in
      let ps = own_pairs old in
      let k : length cs ≡ length ps + 1 = inner in
      let f : before_gap front old ≡ before_child old first ++ before_gap (drop 1 front) (child_at old first) = front_parts front old
      ∙ ap (λ i. before_child old i ++ before_gap (drop 1 front) (child_at old i)) (sym e) in
      let none = append-nil (take first cs) in
      record {
        seen = [];
        stay = [];
        filters = retains_none R s;
        old_is = λ ys q. inner_gap old first inner le ∙ ap (λ zs. before_child old first ++ (zs ++ after_child old first)) q
            ∙ ap (λ zs. before_child old first ++ zs) (append_assoc (before_gap (drop 1 front) (child_at old first)) ys (after_child old first))
            ∙ sym (append_assoc (before_child old first) (before_gap (drop 1 front) (child_at old first)) (ys ++ after_child old first))
            ∙ ap (λ zs. zs ++ (ys ++ after_child old first)) (sym f);
        front_is = sym f ∙ sym (append-nil (before_gap front old));
        done = [];
        children = sym (take_drop first cs) ∙ ap (λ zs. zs ++ drop first cs) (sym none);
        place = ap length none ∙ length_take first cs (omega arith);
        own_done = take first ps;
        own = sym (take_drop first ps);
        own_place = length_take first ps le;
        later = omega arith;
        few = omega arith;
        inside = le;
        inner = inner;
        levels = λ h l. tt;
        onward = inr (refl, refl);
      }

  module _ (s t : S) (front : List ℕ) (old now : Node K V Z) (front_rest : List ℕ) (first counter at : ℕ)
      (x : IsStretching s t front old now front_rest first counter at) where
    abbrev A : List (Node K V Z)
    A = take first (children_of old) ++ x.done

    abbrev c : Node K V Z
    c = child_at old counter

    abbrev D : List (Node K V Z)
    D = drop (suc counter) (children_of old)

    stretching_open : IsOpenAt now at A c D x.own_done (drop counter (own_pairs old))
    stretching_open =
        record {
          children = x.children ∙ ap (λ ds. A ++ ds) (drop_item (children_of old) counter old (omega arith));
          own = x.own;
          before = x.place;
          own_before = x.own_place;
        }

    pub record IsLentNow : Type 0 where
      pub inner : IsInner now
      pub bounds : at ≤ length (own_pairs now)
      pub size : length (own_pairs now) + counter ≡ length (own_pairs old) + at
      pub is : child_at now at ≡ c

    pub stretching_lent : IsLentNow
    stretching_lent =
        let a = length-drop (suc counter) (children_of old) in
        let b = length-drop counter (own_pairs old) in
        let o = ap length x.own ∙ length-append x.own_done (drop counter (own_pairs old)) in
        record {
          inner = open_inner now at A c D x.own_done (drop counter (own_pairs old)) stretching_open (omega arith);
          bounds = omega arith;
          size = omega arith;
          is = open_child now at A c D x.own_done (drop counter (own_pairs old)) stretching_open;
        }

    -- what is below the child goes on from there
    stretching_end_below : (h m : ℕ) → IsEnd (suc h) front old → first ≡ get_or front 0 m → IsEnd h front_rest c
    stretching_end_below h m e f = go x.onward
      where
        go : (front_rest ≡ []) ⊎ ((counter ≡ first) × (front_rest ≡ drop 1 front)) → IsEnd h front_rest c
        go (inl n) = subst (λ p. IsEnd h p c) (sym n) (tt, λ q. absurd (omega arith))
        go (inr (q, n)) = subst (λ p. IsEnd h p c) (sym n) (subst (λ i. IsEnd h (drop 1 front) (child_at old i)) (sym (q ∙ f)) (end_below h front old m e))

    pub stretching_order : (back : List ℕ) (m : ℕ) → AreInOrder front back → first ≡ get_or front 0 0 → counter ≡ get_or back 0 m
        → AreInOrder front_rest (drop 1 back)
    stretching_order back m o f g = go x.onward
      where
        go : (front_rest ≡ []) ⊎ ((counter ≡ first) × (front_rest ≡ drop 1 front)) → AreInOrder front_rest (drop 1 back)
        go (inl n) = subst (λ p. AreInOrder p (drop 1 back)) (sym n) tt
        go (inr (q, n)) = subst (λ p. AreInOrder p (drop 1 back)) (sym n) (order_onward front back m o (sym f ∙ sym q ∙ g))

    pub stretching_onward : (h : ℕ) (d : Node K V Z) → IsLevelled (suc h) old → IsEnd (suc h) front old → first ≡ get_or front 0 0 → d ≡ child_at now at
        → IsLevelled h d × IsEnd h front_rest d
    stretching_onward h d l e f q =
        let is : d ≡ c = q ∙ stretching_lent.is in (
          subst (IsLevelled h) (sym is) (child_below h old counter l x.inside).1,
          subst (IsEnd h front_rest) (sym is) (stretching_end_below h 0 e f),
        )

    pub stretching_back : (h m : ℕ) (d : Node K V Z) (back : List ℕ) → IsEnd (suc h) back old → counter ≡ get_or back 0 m → d ≡ child_at now at
        → IsEnd h (drop 1 back) d
    stretching_back h m d back e f q = subst (IsEnd h (drop 1 back)) (sym (q ∙ stretching_lent.is))
        (subst (λ i. IsEnd h (drop 1 back) (child_at old i)) (sym f) (end_below h back old m e))

    -- the child came back
    module _ (mid dold dnew : Node K V Z) (is : dold ≡ child_at now at) (m : IsReplaced now mid at dnew)
        (underfull : (h : ℕ) → IsLevelled h dold → IsUnderfull h dnew) where
      here : dold ≡ c
      here = is ∙ stretching_lent.is

      left : IsChildLeft now mid dnew at
      left = child_left now mid dnew at stretching_lent.inner stretching_lent.bounds m

      underfull_here : (h : ℕ) → IsLevelled (suc h) old → IsUnderfull h dnew
      underfull_here h l = underfull h (subst (IsLevelled h) (sym here) (child_below h old counter l x.inside).1)

      taken : take at (children_of mid) ≡ A
      taken = m.lead ∙ ap (take at) x.children ∙ take_place A (drop counter (children_of old)) at x.place

      dropped : drop (suc at) (children_of mid) ≡ D
      dropped = m.rest ∙ ap (drop (suc at)) (stretching_open.children ∙ sym (append_assoc A (c ∷ []) D))
          ∙ drop_place (A ++ c ∷ []) D (suc at) (length-append A (c ∷ []) ∙ (omega arith))

      pub back_underfull : (h : ℕ) → IsLevelled (suc h) old → IsUnderfull h (child_at mid at)
      back_underfull h l = subst (IsUnderfull h) (sym left.child) (underfull_here h l)

      pub back_sizes : IsInner mid × (at ≤ length (own_pairs mid)) × (length (own_pairs mid) + counter ≡ length (own_pairs old) + at)
      back_sizes =
          let o : length (own_pairs mid) ≡ length (own_pairs now) = ap length m.same in
          (left.inner, omega (arith, stretching_lent.bounds), omega (arith, stretching_lent.size))

      -- and the pair after it was asked
      pub stretching_more : (u v : S) (new : Node K V Z) (j : ℕ) → counter < length (own_pairs old) → IsRangeFiltered R t u front_rest [] dold dnew
          → IsPassed IsUnderfull R u v at j mid new → IsStretching s v front old new [] first (counter + 1) j
      stretching_more u v new j lt e p =
          let one : counter + 1 ≡ suc counter = omega arith in
          let next : at + 1 ≡ suc at = omega arith in
          let before = x.later in
          let few = p.few in
          let place = p.place in
          let ps = own_pairs old in
          let cs : children_of new ≡ (take first (children_of old) ++ (x.done ++ p.kept)) ++ D = p.children
          ∙ ap (λ zs. zs ++ (p.kept ++ drop (suc at) (children_of mid))) taken ∙ ap (λ ds. A ++ (p.kept ++ ds)) dropped ∙ sym (append_assoc A p.kept D)
          ∙ ap (λ zs. zs ++ D) (append_assoc (take first (children_of old)) x.done p.kept) in
          let os : own_pairs new ≡ p.own_kept ++ drop (counter + 1) ps = p.own ∙ ap (λ qs. p.own_kept ++ drop (suc at) qs) (m.same ∙ x.own)
          ∙ ap (λ i. p.own_kept ++ drop i (x.own_done ++ drop counter ps)) (sym next)
          ∙ ap (λ qs. p.own_kept ++ qs) (sym (drop-drop 1 at (x.own_done ++ drop counter ps)))
          ∙ ap (λ qs. p.own_kept ++ drop 1 qs) (drop_place x.own_done (drop counter ps) at x.own_place)
          ∙ ap (λ qs. p.own_kept ++ qs) (drop-drop 1 counter ps) in
          let size : length (take first (children_of old) ++ (x.done ++ p.kept)) ≡ j =
          ap length (sym (append_assoc (take first (children_of old)) x.done p.kept)) ∙ length-append A p.kept ∙ omega arith in
          let o : IsOpenAt new j (take first (children_of old) ++ (x.done ++ p.kept)) (child_at old (counter + 1)) (drop (suc (counter + 1)) (children_of old))
          p.own_kept (drop (counter + 1) ps) = record {
            children = cs ∙ ap (λ i. (take first (children_of old) ++ (x.done ++ p.kept)) ++ drop i (children_of old)) (sym one)
                ∙ ap (λ ds. (take first (children_of old) ++ (x.done ++ p.kept)) ++ ds) (drop_item (children_of old) (counter + 1) old (omega arith));
            own = os;
            before = size;
            own_before = p.own_place;
          } in
          let child = open_child new j _ _ _ _ _ o in
          let after : after_child new j ≡ after_child old (counter + 1) = open_after new j _ _ _ _ _ o in
          let was : after_child old counter ≡ p.asked ∷ (pairs_of (child_at old (counter + 1)) ++ after_child old (counter + 1)) =
          sym (open_after now at _ _ _ _ _ stretching_open) ∙ sym left.after ∙ p.here
          ∙ ap (λ n. p.asked ∷ (pairs_of n ++ after_child mid (at + 1))) (sym p.child ∙ child)
          ∙ ap (λ zs. p.asked ∷ (pairs_of (child_at old (counter + 1)) ++ zs)) (sym p.after ∙ after) in
          let asked : pairs_of c ≡ before_gap front_rest c ++ e.asked = ap pairs_of (sym here) ∙ e.before
          ∙ ap (λ zs. before_gap front_rest dold ++ zs) (append-nil e.asked) ∙ ap (λ n. before_gap front_rest n ++ e.asked) here in
          let stays : pairs_of dnew ≡ before_gap front_rest c ++ e.stay = e.after
          ∙ ap (λ zs. before_gap front_rest dold ++ zs) (append-nil e.stay) ∙ ap (λ n. before_gap front_rest n ++ e.stay) here in
          record {
            seen = x.seen ++ (e.asked ++ p.asked ∷ []);
            stay = x.stay ++ (e.stay ++ p.stay);
            filters = retains_join R x.seen (e.asked ++ p.asked ∷ []) x.stay (e.stay ++ p.stay) s t v x.filters
                (retains_join R e.asked (p.asked ∷ []) e.stay p.stay t u v e.filtered p.filtered);
            old_is = λ ys q. x.old_is e.asked asked ∙ ap (λ zs. before_gap front old ++ (x.seen ++ (e.asked ++ zs)))
                (was ∙ ap (λ zs. p.asked ∷ (zs ++ after_child old (counter + 1))) q)
                ∙ regroup (before_gap front old) x.seen e.asked p.asked (ys ++ after_child old (counter + 1));
            front_is = append-nil (before_child new j) ∙ p.before ∙ ap (λ zs. zs ++ (pairs_of (child_at mid at) ++ p.stay)) left.before
                ∙ ap (λ n. before_child now at ++ (pairs_of n ++ p.stay)) left.child ∙ ap (λ zs. before_child now at ++ (zs ++ p.stay)) stays
                ∙ regroup_front (before_child now at) (before_gap front_rest c) e.stay p.stay ∙ ap (λ zs. zs ++ (e.stay ++ p.stay)) x.front_is
                ∙ append_assoc (before_gap front old) x.stay (e.stay ++ p.stay);
            done = x.done ++ p.kept;
            children = cs ∙ ap (λ i. (take first (children_of old) ++ (x.done ++ p.kept)) ++ drop i (children_of old)) (sym one);
            place = size;
            own_done = p.own_kept;
            own = os;
            own_place = p.own_place;
            later = omega arith;
            few = omega arith;
            inside = omega arith;
            inner = x.inner;
            levels = λ h l. all_both (IsUnderfull h) x.done p.kept (x.levels h l) (p.levels h (back_underfull h l));
            onward = inl refl;
          }
        where
          regroup : (f a b : List (K × V)) (y : K × V) (z : List (K × V)) → f ++ (a ++ (b ++ y ∷ z)) ≡ f ++ ((a ++ (b ++ y ∷ [])) ++ z)
          regroup f a b y z = simp append_assoc

          regroup_front : (b g a z : List (K × V)) → b ++ ((g ++ a) ++ z) ≡ (b ++ g) ++ (a ++ z)
          regroup_front b g a z = simp append_assoc

      -- the last child
      pub stretching_filtered : (u : S) (back : List ℕ) → counter ≡ get_or back 0 (length (own_pairs old)) → IsRangeFiltered R t u front_rest (drop 1 back) dold
          dnew
          → IsRangeFiltered R s u front back old mid
      stretching_filtered u back g e =
          let b = back_parts back old counter g in
          let rest = after_gap (drop 1 back) c in
          let asked : pairs_of c ≡ before_gap front_rest c ++ (e.asked ++ rest) = ap pairs_of (sym here) ∙ e.before
          ∙ ap (λ n. before_gap front_rest n ++ (e.asked ++ after_gap (drop 1 back) n)) here in
          let stays : pairs_of dnew ≡ before_gap front_rest c ++ (e.stay ++ rest) = e.after
          ∙ ap (λ n. before_gap front_rest n ++ (e.stay ++ after_gap (drop 1 back) n)) here in
          let after : after_child mid at ≡ after_child old counter = left.after ∙ open_after now at _ _ _ _ _ stretching_open in
          record {
            asked = x.seen ++ e.asked;
            stay = x.stay ++ e.stay;
            filtered = retains_join R x.seen e.asked x.stay e.stay s t u x.filters e.filtered;
            before = x.old_is (e.asked ++ rest) asked ∙ regroup (before_gap front old) x.seen e.asked rest (after_child old counter)
                ∙ ap (λ zs. before_gap front old ++ ((x.seen ++ e.asked) ++ zs)) b;
            after = inner_gap mid at left.inner back_sizes.1 ∙ ap (λ zs. zs ++ (pairs_of (child_at mid at) ++ after_child mid at)) left.before
                ∙ ap (λ n. before_child now at ++ (pairs_of n ++ after_child mid at)) left.child
                ∙ ap (λ zs. before_child now at ++ (zs ++ after_child mid at)) stays
                ∙ ap (λ zs. before_child now at ++ ((before_gap front_rest c ++ (e.stay ++ rest)) ++ zs)) after
                ∙ regroup_front (before_child now at) (before_gap front_rest c) e.stay rest (after_child old counter)
                ∙ ap (λ zs. zs ++ (e.stay ++ (rest ++ after_child old counter))) x.front_is
                ∙ ap (λ zs. (before_gap front old ++ x.stay) ++ (e.stay ++ zs)) b
                ∙ regroup_last (before_gap front old) x.stay e.stay (after_gap back old);
          }
        where
          regroup : (f a b y z : List (K × V)) → f ++ (a ++ ((b ++ y) ++ z)) ≡ f ++ ((a ++ b) ++ (y ++ z))
          regroup f a b y z = simp append_assoc

          regroup_front : (b g a y z : List (K × V)) → b ++ ((g ++ (a ++ y)) ++ z) ≡ (b ++ g) ++ (a ++ (y ++ z))
          regroup_front b g a y z = simp append_assoc

          regroup_last : (f a b z : List (K × V)) → (f ++ a) ++ (b ++ z) ≡ f ++ ((a ++ b) ++ z)
          regroup_last f a b z = simp append_assoc

      pub stretching_underfull : (h : ℕ) → IsLevelled (suc h) old → IsUnderfullWithin h mid first at
      stretching_underfull h l =
          let cs = children_of old in
          let k : length cs ≡ length (own_pairs old) + 1 = x.inner in
          let order = x.later in
          let fits = l.0 in
          let sound = subst (AllByRecursion (IsSound h)) (sym (take_drop first cs)) l.2 in
          let front_sound = all_front (IsSound h) (take first cs) (drop first cs) sound in
          let back_sound = all_drop (IsSound h) (suc counter) cs l.2 in
          let n : length (children_of mid) ≡ length (own_pairs mid) + 1 = left.inner in
          let last = back_sizes.1 in
          let whole : children_of mid ≡ take first cs ++ (x.done ++ child_at mid at ∷ D) = cut_item (children_of mid) at mid (omega arith)
          ∙ ap (λ zs. zs ++ child_at mid at ∷ drop (suc at) (children_of mid)) taken ∙ ap (λ ds. A ++ child_at mid at ∷ ds) dropped
          ∙ append_assoc (take first cs) x.done (child_at mid at ∷ D) in
          let one : at + 1 ≡ suc at = omega arith in
          let of_sound = λ (n : Node K V Z) (y : IsSound h n). levelled_underfull h n y.1 in
          record {
            fits = omega (arith, back_sizes.2);
            inner = left.inner;
            order = order;
            last = last;
            before = subst (AllByRecursion (IsSound h)) (sym (ap (take first) whole
                ∙ take_place (take first cs) (x.done ++ child_at mid at ∷ D) first (length_take first cs (omega arith)))) front_sound;
            underfull = subst (AllByRecursion (IsUnderfull h)) (sym whole)
                (all_both (IsUnderfull h) (take first cs) _ (all_each (IsSound h) (IsUnderfull h) of_sound _ front_sound)
                (all_both (IsUnderfull h) x.done _ (x.levels h l) (back_underfull h l, all_each (IsSound h) (IsUnderfull h) of_sound _ back_sound)));
            after = subst (AllByRecursion (IsSound h)) (sym (ap (λ i. drop i (children_of mid)) one ∙ dropped)) back_sound;
          }
