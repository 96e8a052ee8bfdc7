-- How each set operation begins on two ascending lists, by how their first items stand to one another.
use Rattle.std.proofs.Common.{◌≡◌, Bool, true, false, cond, List, [], ◌∷◌, drop, filter, Option, None, is_some, is_none, refl, sym, ap, ◌∙◌}
use Rattle.std.specs.List.{AllByRecursion}
use Rattle.std.specs.Cmp.{IsTotalOrder}
use Rattle.std.specs.Ordering.{is_lt, is_gt, ordering_reverse}
use Rattle.std.specs.declared.cmp.Ordering.{Ordering}
use Rattle.std.specs.declared.cmp.Ordering.TheVariants.{Less, Equal, Greater}
use Rattle.std.proofs.lemmas.Cmp.{tied_itself}
use Rattle.fc_base.specs.Viewed.{over_one}
use Rattle.fc_base.proofs.AscendingFacts.{all_map, all_filter, kept, left_out}
use Rattle.fc_set.specs.Items.{item_at, smaller, greater, AreAscending, with_replaced, joined_items}
use Rattle.fc_set.specs.Operations.{difference, common, symmetric_difference}
use Rattle.fc_set.specs.Sides.{untaken}

-- tests that agree keep the same
filter_alike : {X : Type 0} (p q : X → Bool) (s : List X) → AllByRecursion (λ x. p x ≡ q x) s → filter p s ≡ filter q s
filter_alike p q [] a = refl
filter_alike p q (x ∷ s) a = rw (a.0, filter_alike p q s a.1) refl

module _ {T : Type 0} (cmp : T → T → Ordering) where
  -- The item is below all of the list.
  abbrev pub IsBelow : T → List T → Type 0
  IsBelow x s = AllByRecursion (λ y. cmp x y ≡ Less) s

  pub ascending_kept : (p : T → Bool) (s : List T) → AreAscending cmp s → AreAscending cmp (filter p s)
  ascending_kept p [] a = tt
  ascending_kept p (x ∷ s) a = elim (p x) as (λ b. AreAscending cmp (cond b (x ∷ filter p s) (filter p s)))
      [ true ↦ (all_filter _ p s a.0, ascending_kept p s a.1) | false ↦ ascending_kept p s a.1 ]

  -- the items of s that a test keeps by what is equal to them in t
  abbrev filtered : (Option T → Bool) → List T → List T → List T
  filtered f s t = filter (λ x. f (item_at cmp t x)) s

  -- An item below all of the other side passes nothing there.
  filtered_after : (f : Option T → Bool) (s t : List T) (y : T) → IsBelow y s → filtered f s (y ∷ t) ≡ filtered f s t
  filtered_after f s t y below = filter_alike _ _ s (all_map _ _ (λ x less. rw less refl) s below)

  -- Two sides that hold nothing in common where one is empty.
  pub difference_of_none : (s : List T) → difference cmp s [] ≡ s
  difference_of_none [] = refl
  difference_of_none (x ∷ s) = ap (λ l. x ∷ l) (difference_of_none s)

  pub common_of_none : (s : List T) → common cmp s [] ≡ []
  common_of_none [] = refl
  common_of_none (x ∷ s) = common_of_none s

  -- The second's first item is below all of the first.
  pub difference_after : (s t : List T) (y : T) → IsBelow y s → difference cmp s (y ∷ t) ≡ difference cmp s t
  difference_after s t y below = filtered_after is_none s t y below

  pub common_after : (s t : List T) (y : T) → IsBelow y s → common cmp s (y ∷ t) ≡ common cmp s t
  common_after s t y below = filtered_after is_some s t y below

  pub joined_first : (s t : List T) (y : T) → IsBelow y s → joined_items cmp (y ∷ t) s ≡ y ∷ joined_items cmp t s
  joined_first [] t y below = refl
  joined_first (x ∷ s) t y below = ap (λ l. joined_items cmp l s) placed ∙ joined_first s (with_replaced cmp t x) y below.1
    where
      placed : with_replaced cmp (y ∷ t) x ≡ y ∷ with_replaced cmp t x
      placed = rw below.0 refl

  module _ (total : IsTotalOrder cmp) where
    above_all : (x : T) (t : List T) → IsBelow x t → AllByRecursion (λ y. cmp y x ≡ Greater) t
    above_all x t below = all_map _ _ (λ y less. over_one cmp total x y less) t below

    pub below_on : (x y : T) (t : List T) → cmp x y ≡ Less → IsBelow y t → IsBelow x t
    below_on x y t less below = all_map _ _ (λ z l. total.trans x y z less l) t below

    pub below_tied : (x y : T) (t : List T) → cmp x y ≡ Equal → IsBelow y t → IsBelow x t
    below_tied x y t same below = all_map _ _ (λ z l. total.congr x y z same ∙ l) t below

    pub tied_back : (x y : T) → cmp x y ≡ Equal → cmp y x ≡ Equal
    tied_back x y same = total.antisymm y x ∙ ap ordering_reverse same

    -- Nothing is equal to an item below all.
    pub absent : (x : T) (t : List T) → IsBelow x t → item_at cmp t x ≡ None
    absent x [] below = refl
    absent x (y ∷ t) below = rw (over_one cmp total x y below.0) (absent x t below.1)

    pub greater_all : (x : T) (t : List T) → IsBelow x t → greater cmp t x ≡ t
    greater_all x t below = kept _ t (all_map _ _ (λ y h. ap is_gt h) t (above_all x t below))

    smaller_none : (x : T) (t : List T) → IsBelow x t → smaller cmp t x ≡ []
    smaller_none x t below = left_out _ t (all_map _ _ (λ y h. ap is_lt h) t (above_all x t below))

    placed_first : (x : T) (t : List T) → IsBelow x t → with_replaced cmp t x ≡ x ∷ t
    placed_first x t below = rw (smaller_none x t below, greater_all x t below) refl

    -- The first's first item is below all of the second.
    pub difference_ours : (s t : List T) (x : T) → IsBelow x t → difference cmp (x ∷ s) t ≡ x ∷ difference cmp s t
    difference_ours s t x below = rw (absent x t below) refl

    pub common_ours : (s t : List T) (x : T) → IsBelow x t → common cmp (x ∷ s) t ≡ common cmp s t
    common_ours s t x below = rw (absent x t below) refl

    pub joined_ours : (s t : List T) (x : T) → IsBelow x s → IsBelow x t → joined_items cmp t (x ∷ s) ≡ x ∷ joined_items cmp t s
    joined_ours s t x later below = ap (λ l. joined_items cmp l s) (placed_first x t below) ∙ joined_first s t x later

    -- Both first items are equal.
    pub difference_tied : (s t : List T) (x y : T) → cmp x y ≡ Equal → IsBelow x s → difference cmp (x ∷ s) (y ∷ t) ≡ difference cmp s t
    difference_tied s t x y same below = rw (tied_back x y same) (difference_after s t y (below_tied y x s (tied_back x y same) below))

    pub common_tied : (s t : List T) (x y : T) → cmp x y ≡ Equal → IsBelow x s → common cmp (x ∷ s) (y ∷ t) ≡ x ∷ common cmp s t
    common_tied s t x y same below = rw (tied_back x y same) (ap (λ l. x ∷ l) (common_after s t y (below_tied y x s (tied_back x y same) below)))

    pub joined_tied : (s t : List T) (x y : T) → cmp x y ≡ Equal → IsBelow x s → IsBelow y t → joined_items cmp (y ∷ t) (x ∷ s) ≡ x ∷ joined_items cmp t s
    joined_tied s t x y same later below = ap (λ l. joined_items cmp l s) (placed ∙ placed_first x t (below_tied x y t same below)) ∙ joined_first s t x later
      where
        placed : with_replaced cmp (y ∷ t) x ≡ with_replaced cmp t x
        placed = rw (tied_back x y same) refl

    -- A list joined to none.
    pub joined_to_none : (s : List T) → AreAscending cmp s → joined_items cmp [] s ≡ s
    joined_to_none [] a = refl
    joined_to_none (x ∷ s) a = joined_first s [] x a.0 ∙ ap (λ l. x ∷ l) (joined_to_none s a.1)

    -- Both sides of a symmetric difference, by the same three cases.
    pub symmetric_ours : (s t : List T) (x : T) → IsBelow x s → IsBelow x t → symmetric_difference cmp (x ∷ s) t ≡ x ∷ symmetric_difference cmp s t
    symmetric_ours s t x later below =
        rw (difference_ours s t x below, difference_after t s x below) (joined_first (difference cmp t s) (difference cmp s t) x (all_filter _ _ t below))

    pub symmetric_theirs : (s t : List T) (y : T) → IsBelow y s → IsBelow y t → symmetric_difference cmp s (y ∷ t) ≡ y ∷ symmetric_difference cmp s t
    symmetric_theirs s t y below later =
        rw (difference_after s t y below, difference_ours t s y below) (joined_ours (difference cmp t s) (difference cmp s t) y (all_filter _ _ t later)
        (all_filter _ _ s below))

    pub symmetric_tied : (s t : List T) (x y : T) → cmp x y ≡ Equal → IsBelow x s → IsBelow y t
        → symmetric_difference cmp (x ∷ s) (y ∷ t) ≡ symmetric_difference cmp s t
    symmetric_tied s t x y same later below = rw (difference_tied s t x y same later, difference_tied t s y x (tied_back x y same) below) refl

    -- What stands after the first item is what is greater than it.
    pub after_first : (x : T) (s : List T) → IsBelow x s → greater cmp (x ∷ s) x ≡ s
    after_first x s below = rw (tied_itself total x) (greater_all x s below)

  -- After an item that is smaller than all of those in question both lists go on alike.
  abbrev pub AreAlike : List T → List T → List T → Type 0
  AreAlike over s s' = AllByRecursion (λ z. greater cmp s z ≡ greater cmp s' z) over

  pub alike_itself : (over s : List T) → AreAlike over s s
  alike_itself [] s = tt
  alike_itself (z ∷ over) s = (refl, alike_itself over s)

  pub alike_after : (over s s' : List T) (x : T) → IsBelow x over → AreAlike over (x ∷ s) s' → AreAlike over s s'
  alike_after [] s s' x below a = tt
  alike_after (z ∷ over) s s' x below a = (sym after ∙ a.0, alike_after over s s' x below.1 a.1)
    where
      after : greater cmp (x ∷ s) z ≡ greater cmp s z
      after = rw below.0 refl

  -- What a walk over both leaves of the first where no item is common.
  pub untaken_ours : (s t : List T) (x y : T) → cmp y x ≡ Greater → untaken cmp (x ∷ s) (y ∷ t) ≡ untaken cmp s (y ∷ t)
  untaken_ours s t x y over = rw over refl

  pub untaken_after : (s t : List T) (y : T) → IsBelow y s → untaken cmp s (y ∷ t) ≡ untaken cmp s t
  untaken_after s t y below = ap (drop 1) (filter_alike _ _ s (all_map _ _ (λ x less. rw less refl) s below))

  pub untaken_of_none : (x : T) (s : List T) → untaken cmp (x ∷ s) [] ≡ s
  untaken_of_none x s = difference_of_none s
