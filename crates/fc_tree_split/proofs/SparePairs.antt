-- A node whose child on the border is given a spare pair up from its sibling, or merged with it.
use Rattle.std.proofs.Common.{◌≡◌, ℕ, suc, ◌+◌, ◌-◌, ◌<◌, ◌≤◌, List, [], ◌∷◌, ◌++◌, length, get_or, take, drop, refl, sym, ap, subst, ◌∙◌, arith, length-append}
use Rattle.std.proofs.Common.{append_assoc}
use Rattle.std.specs.List.{AllByRecursion}
use Rattle.std.proofs.lemmas.List.Edits.{length-remove}
use Rattle.fc_base.specs.Sizes.{capacity, min_len}
use Rattle.fc_tree_node.specs.declared.node.Node.{Node}
use Rattle.fc_tree_node.specs.Node.{own_pairs, children_of, child_at, IsInner, IsSound}
use Rattle.fc_tree_node.specs.Bordered.{FirstThen, LastAfter, IsLeftBordered, IsRightBordered}
use Rattle.fc_tree_node.specs.Siblings.{AreAlike, IsMerged, IsShared}
use Rattle.fc_tree_node.proofs.Lists.{length_take, length_set, all_both}
use Rattle.fc_tree_node.proofs.Gaps.{item_there}
use Rattle.fc_tree_node.proofs.Siblings.{two_at, set_two, set_removed, shared_inner, merged_inner}
use Rattle.fc_tree_split.specs.Border.{IsBordered, border_place, HasSparePair}
use Rattle.fc_tree_node.specs.Shrunk.{IsOneFewer}
use Rattle.fc_tree_split.proofs.Borders.{LeftOf, RightOf, sides_alike, side_whole, side_both, border_closed, child_here, last_split}
use Rattle.fc_tree_split.specs.declared.rebalancing.Border.{Border}
use Rattle.fc_tree_split.specs.declared.rebalancing.Border.TheVariants.{Left, Right}

-- how many pairs the left one of the two has once the border has one more than the fewest
abbrev pub left_share : Border → ℕ → ℕ
left_share Left both = min_len + 1
left_share Right both = both - (min_len + 1)

share_fits : (s : Border) (n : ℕ) → capacity ≤ n → n ≤ capacity + (min_len + 1) → (left_share s n ≤ capacity) × (n ≤ left_share s n + capacity)
share_fits Left n lo hi = (omega arith, omega arith)
share_fits Right n lo hi = (omega arith, omega arith)

module _ {K V Z : Type 0} where
  -- the place of the pair between the border and its sibling
  abbrev pub pair_place : Border → Node K V Z → ℕ
  pair_place s n = border_place s n - 1

  abbrev pub both_of : Node K V Z → ℕ → ℕ
  both_of n j = length (own_pairs (child_at n j)) + length (own_pairs (child_at n (j + 1)))

  -- the border and its sibling, among sound nodes
  pub record IsPairAt (s : Border) (h : ℕ) (n : Node K V Z) (j : ℕ) : Type 0 where
    pub place : j ≡ pair_place s n
    pub in_bounds : j < length (own_pairs n)
    pub fits : length (own_pairs n) ≤ capacity
    pub inner : IsInner n
    pub before : AllByRecursion (IsSound h) (take j (children_of n))
    pub left : LeftOf s h (child_at n j)
    pub right : RightOf s h (child_at n (j + 1))
    pub after : AllByRecursion (IsSound h) (drop (suc (suc j)) (children_of n))
    pub many : min_len ≤ both_of n j

  pub pair_opened : (s : Border) (h : ℕ) (n : Node K V Z) (j : ℕ) → 1 ≤ length (own_pairs n) → IsBordered s (suc h) n → j ≡ pair_place s n → IsPairAt s h n j
  pair_opened Left h n j some b e =
      let t = subst (FirstThen (IsLeftBordered h) (IsSound h)) (two_at (children_of n) 0 n (omega arith)) b.2 in
      subst (λ i. IsPairAt Left h n i) (sym e)
      (record { place = refl; in_bounds = some; fits = b.0; inner = b.1; before = tt; left = t.0; right = t.1.0.1; after = t.1.1; many = omega arith })
  pair_opened Right h n j some b e =
      let D = drop (suc (suc j)) (children_of n) in
      let R = child_at n (j + 1) in
      let two = two_at (children_of n) j n (omega arith) in
      let tl = length_take j (children_of n) (omega arith) in
      let t = ap length two ∙ length-append (take j (children_of n)) (child_at n j ∷ R ∷ D) in
      let parts = last_split (IsRightBordered h) (IsSound h) (take j (children_of n)) (child_at n j ∷ R ∷ D) (omega arith)
      (subst (LastAfter (IsRightBordered h) (IsSound h)) two b.2) in
      let ends = last_two h (child_at n j) R D (omega arith) parts.1 in
      record {
        place = e;
        in_bounds = omega arith;
        fits = b.0;
        inner = b.1;
        before = parts.0;
        left = ends.0.1;
        right = ends.1;
        after = ends.2;
        many = omega arith;
      }
    where
      last_two : (h : ℕ) (l r : Node K V Z) (D : List (Node K V Z)) → length D ≡ 0 → LastAfter (IsRightBordered h) (IsSound h) (l ∷ r ∷ D)
          → IsSound h l × IsRightBordered h r × AllByRecursion (IsSound h) D
      last_two h l r [] z a = (a.0, a.1, tt)
      last_two h l r (d ∷ D) z a = absurd (omega arith)

  pub pair_alike : (s : Border) (h : ℕ) (n : Node K V Z) (j : ℕ) → IsPairAt s h n j → AreAlike (child_at n j) (child_at n (j + 1))
  pair_alike s h n j p = sides_alike s h _ _ p.left p.right

  merged_place : (s : Border) (old new : Node K V Z) (j : ℕ) → j ≡ pair_place s old → 1 ≤ length (own_pairs old)
      → length (own_pairs new) + 1 ≡ length (own_pairs old) → j ≡ border_place s new
  merged_place Left old new j e some o = e
  merged_place Right old new j e some o = omega arith

  pub merged_with_spare : (s : Border) (h : ℕ) (old new : Node K V Z) (j : ℕ) → IsPairAt s h old j
      → both_of old j < capacity → IsMerged j old new → HasSparePair s h old new
  merged_with_spare s h old new j p room m =
      let d = (item_there (own_pairs old) j p.in_bounds).0 in
      let o : length (own_pairs new) + 1 ≡ length (own_pairs old) = ap (λ ps. length ps + 1) m.pairs ∙ length-remove (own_pairs old) j p.in_bounds in
      let w = ap length (m.own d) ∙ length-append (own_pairs (child_at old j)) (get_or (own_pairs old) j d ∷ own_pairs (child_at old (j + 1))) in
      let there = m.children ∙ set_removed (children_of old) j m.whole (omega arith) in
      let place = merged_place s old new j p.place (omega arith) o in
      let front : length (take j (children_of old)) ≡ border_place s new = length_take j (children_of old) (omega arith) ∙ place in
      let c = ap (λ n. length (own_pairs n)) (child_here new m.whole _ _ _ there front) in (
        border_closed s h new m.whole _ _ (omega arith) (merged_inner old j p.inner p.in_bounds new m) there front p.before
            (side_whole s h _ _ _ p.left p.right m.below m.alike (omega arith)) p.after,
        omega arith,
        (omega arith, omega arith),
      )

  -- the two after pairs went from one to the other
  record IsTraded (s : Border) (h : ℕ) (old new l r : Node K V Z) (j : ℕ) : Type 0 where
    pub own : length (own_pairs new) ≡ length (own_pairs old)
    pub fits : length (own_pairs new) ≤ capacity
    pub same : IsOneFewer old new
    pub there : children_of new ≡ take j (children_of old) ++ l ∷ r ∷ drop (suc (suc j)) (children_of old)
    pub sizes : length (own_pairs l) + length (own_pairs r) ≡ both_of old j
    pub sides : LeftOf s h l × RightOf s h r

  traded : (s : Border) (h : ℕ) (old new : Node K V Z) (j : ℕ) → IsPairAt s h old j → capacity ≤ both_of old j → both_of old j ≤ capacity + (min_len + 1)
      → (k : ℕ) → k ≡ left_share s (both_of old j) → (m : IsShared j k old new) → IsTraded s h old new m.left m.right j
  traded s h old new j p lo hi n w m =
      let fits = p.fits in
      let o : length (own_pairs new) ≡ length (own_pairs old) = ap length m.pairs ∙ length_set (own_pairs old) j m.between in
      let a = length-append (own_pairs m.left) (m.between ∷ own_pairs m.right) in
      let b = ap length (m.own m.between) ∙ length-append (own_pairs (child_at old j))
      (get_or (own_pairs old) j m.between ∷ own_pairs (child_at old (j + 1))) in
      let few = share_fits s (both_of old j) lo hi in
      record {
        own = o;
        fits = omega arith;
        same = (omega arith, omega arith);
        there = m.children ∙ set_two (children_of old) j m.left m.right (omega arith);
        sizes = omega arith;
        sides = side_both s h _ _ m.left m.right p.left p.right m.below m.alike_before m.alike (omega arith) (omega arith);
      }

  pub shared_with_spare : (s : Border) (h : ℕ) (old new : Node K V Z) (j : ℕ) → IsPairAt s h old j → capacity ≤ both_of old j
      → both_of old j ≤ capacity + (min_len + 1) → (k : ℕ) → k ≡ left_share s (both_of old j) → IsShared j k old new → HasSparePair s h old new
  shared_with_spare Left h old new j p lo hi n w m =
      let t = traded Left h old new j p lo hi n w m in
      let front : length (take j (children_of old)) ≡ 0 = length_take j (children_of old) (omega arith) ∙ p.place in
      let c = ap (λ n. length (own_pairs n)) (child_here new m.left _ _ 0 t.there front) in (
        border_closed Left h new m.left _ _ t.fits (shared_inner old j p.inner p.in_bounds _ new m) t.there front p.before t.sides.0
            ((omega arith, t.sides.1), p.after),
        omega arith,
        t.same,
      )
  shared_with_spare Right h old new j p lo hi n w m =
      let t = traded Right h old new j p lo hi n w m in
      let A = take j (children_of old) in
      let there = t.there ∙ sym (append_assoc A (m.left ∷ []) (m.right ∷ drop (suc (suc j)) (children_of old))) in
      let a = length_take j (children_of old) (omega arith) in
      let b = length-append A (m.left ∷ []) in
      let front : length (A ++ m.left ∷ []) ≡ length (own_pairs new) = omega arith in
      let c = ap (λ n. length (own_pairs n)) (child_here new m.right _ _ _ there front) in (
        border_closed Right h new m.right _ _ t.fits (shared_inner old j p.inner p.in_bounds _ new m) there front
            (all_both (IsSound h) A (m.left ∷ []) p.before ((omega arith, t.sides.0), tt)) t.sides.1 p.after,
        omega arith,
        t.same,
      )
