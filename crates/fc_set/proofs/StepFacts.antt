-- What the steps of the lazy set operations give, over lists.
use Rattle.std.proofs.Common.{◌≡◌, ◌++◌, ◌↔◌, Bool, true, false, IsTrue, IsSome, is_some, List, [], ◌∷◌, drop, Option, Some, None, option_copied}
use Rattle.std.proofs.Common.{option_to_list, MatchOption, refl, sym, ap, ◌∙◌, subst, Bor}
use Rattle.std.proofs.lemmas.Bool.{true≢false}
use Rattle.std.specs.Option.{option_or}
use Rattle.std.specs.Cmp.{IsTotalOrder}
use Rattle.std.specs.declared.cmp.Ordering.{Ordering}
use Rattle.std.specs.declared.cmp.Ordering.TheVariants.{Less, Equal, Greater}
use Rattle.fc_base.specs.Viewed.{over_one}
use Rattle.fc_base.proofs.AscendingFacts.{under_one}
use Rattle.fc_set.specs.Items.{item_at, greater, AreAscending, joined_items}
use Rattle.fc_set.specs.Operations.{difference, common, symmetric_difference, union}
use Rattle.fc_set.specs.Sides.{Sides, AreFirsts, untaken, after_item}
use Rattle.fc_set.proofs.SideFacts.{IsBelow, below_on, below_tied, tied_back, greater_all, after_first, joined_first, joined_ours, joined_tied, symmetric_ours}
use Rattle.fc_set.proofs.SideFacts.{symmetric_theirs, symmetric_tied, AreAlike, alike_after, alike_itself, difference_ours, difference_after, difference_tied}
use Rattle.fc_set.proofs.SideFacts.{common_of_none, common_ours, common_after, common_tied, untaken_ours, untaken_after, untaken_of_none}

not_there : {T : Type 0} (b : Bool) (o : Option T) → (IsTrue b ↔ IsSome o) → b ≡ false → is_some o ≡ false
not_there b None h e = refl
not_there b (Some x) h e = absurd (true≢false (sym (h.1 refl) ∙ e))

module _ {T : Type 0} (cmp : T → T → Ordering) where
  -- After what both have still to give they go on alike.
  abbrev pub BothAlike : List T → List T → List T → List T → Type 0
  BothAlike s t s' t' = (AreAlike cmp s s s' × AreAlike cmp s t t') × (AreAlike cmp t s s' × AreAlike cmp t t t')

  -- A difference that walks both has come to s and t from s' and t'.
  abbrev pub IsApart : List T → List T → List T → List T → Type 0
  IsApart s t s' t' = (difference cmp s' t' ≡ difference cmp s t) × (AreAscending cmp s × AreAscending cmp t) × (AreAlike cmp s s s' × AreAlike cmp s t t')

  -- An intersection that walks both has come to s and t from s' and t'.
  abbrev pub IsCommon : List T → List T → List T → List T → Type 0
  IsCommon s t s' t' = (common cmp s' t' ≡ common cmp s t) × (AreAscending cmp s × AreAscending cmp t) × (AreAlike cmp s s s' × AreAlike cmp s t t')
      × (untaken cmp s' t' ≡ untaken cmp s t)

  -- A walk that looks items up has come to s from s'.
  abbrev pub IsSought : (List T → List T) → List T → List T → Type 0
  IsSought operation s s' = (operation s' ≡ operation s) × AreAscending cmp s × AreAlike cmp s s s'

module _ {T : Type 0} (cmp : T → T → Ordering) (total : IsTotalOrder cmp) where
  -- Of two walks side by side, by the items that come first.
  pub firsts_less : (s t rest : List T) (x y : T) → s ≡ x ∷ drop 1 s → t ≡ y ∷ drop 1 t → rest ≡ drop 1 s → AreAscending cmp s → AreAscending cmp t
      → cmp x y ≡ Less → IsBelow cmp x rest × IsBelow cmp x t
  firsts_less s t rest x y e f r a b less = (
    subst (IsBelow cmp x) (sym r) (subst (AreAscending cmp) e a).0,
    subst (IsBelow cmp x) (sym f) (less, below_on cmp total x y (drop 1 t) less (subst (AreAscending cmp) f b).0),
  )

  pub firsts_greater : (s t rest : List T) (x y : T) → s ≡ x ∷ drop 1 s → t ≡ y ∷ drop 1 t → rest ≡ drop 1 t → AreAscending cmp s → AreAscending cmp t
      → cmp x y ≡ Greater → IsBelow cmp y s × IsBelow cmp y rest
  firsts_greater s t rest x y e f r a b more =
      let back = firsts_less t s rest y x f e r b a (under_one cmp total y x more) in (back.1, back.0)

  pub firsts_tied : (s t left right : List T) (x y : T) → s ≡ x ∷ drop 1 s → t ≡ y ∷ drop 1 t → left ≡ drop 1 s → right ≡ drop 1 t → AreAscending cmp s
      → AreAscending cmp t → cmp x y ≡ Equal → (cmp x y ≡ Equal) × IsBelow cmp x left × IsBelow cmp y right
  firsts_tied s t left right x y e f l r a b same =
      (same, subst (IsBelow cmp x) (sym l) (subst (AreAscending cmp) e a).0, subst (IsBelow cmp y) (sym r) (subst (AreAscending cmp) f b).0)

  -- An operation gave its next item and both sides are after it, or nothing is left.
  abbrev pub IsStep : (List T → List T → List T) → Option (Bor T) → List T → List T → Sides T → Type 0
  IsStep operation r s t w = MatchOption r ((operation s t ≡ []) × (w.left ≡ []) × (w.right ≡ []))
      (λ x. (operation s t ≡ x.now ∷ operation w.left w.right) × (w.left ≡ greater cmp s x.now) × (w.right ≡ greater cmp t x.now))

  pub yields_first : (operation : List T → List T → List T) (r : Option (Bor T)) (s t : List T) (w : Sides T) → operation [] [] ≡ [] → IsStep operation r s t w
      → MatchOption r ((operation s t ≡ []) × (operation w.left w.right ≡ [])) (λ x. operation s t ≡ x.now ∷ operation w.left w.right)
  yields_first operation None s t w none h = (h.0, ap (λ l. operation l w.right) h.1 ∙ ap (operation []) h.2 ∙ none)
  yields_first operation (Some x) s t w none h = h.0

  pub stands_after : (operation : List T → List T → List T) (r : Option (Bor T)) (old w : Sides T) → IsStep operation r old.left old.right w
      → MatchOption r ((w.left ≡ []) × (w.right ≡ [])) (λ x. w ≡ after_item cmp old x.now)
  stands_after operation None old w h = (h.1, h.2)
  stands_after operation (Some x) old w h = λ i. record { left = h.1 i; right = h.2 i }

  -- What one of two walks, or both, gave of a union.
  union_given : (a b : Option (Bor T)) (w : Sides T) → AreFirsts cmp (option_copied a) (option_copied b) w
      → IsStep (union cmp) (option_or a b) (option_to_list (option_copied a) ++ w.left) (option_to_list (option_copied b) ++ w.right) w
  union_given None None w f = (ap (λ l. joined_items cmp l w.left) f.1 ∙ ap (joined_items cmp []) f.0, f.0, f.1)
  union_given (Some x) None w f = (
    joined_ours cmp total w.left w.right x.now f.0 f.1,
    sym (after_first cmp total x.now w.left f.0),
    sym (greater_all cmp total x.now w.right f.1),
  )
  union_given None (Some y) w f = (
    joined_first cmp w.left w.right y.now f.0,
    sym (greater_all cmp total y.now w.left f.0),
    sym (after_first cmp total y.now w.right f.1),
  )
  union_given (Some x) (Some y) w f =
      let below = below_tied cmp total x.now y.now w.right f.0 f.2 in (
        joined_tied cmp total w.left w.right x.now y.now f.0 f.1 f.2,
        sym (after_first cmp total x.now w.left f.1),
        sym (after_tied x.now y.now w.right f.0 ∙ greater_all cmp total x.now w.right below),
      )
    where
      after_tied : (x y : T) (t : List T) → cmp x y ≡ Equal → greater cmp (y ∷ t) x ≡ greater cmp t x
      after_tied x y t e = rw (tied_back cmp total x y e) refl

  pub union_step : (a b r : Option (Bor T)) (s t : List T) (w : Sides T) → r ≡ option_or a b → s ≡ option_to_list (option_copied a) ++ w.left
      → t ≡ option_to_list (option_copied b) ++ w.right → AreFirsts cmp (option_copied a) (option_copied b) w → IsStep (union cmp) r s t w
  union_step a b r s t w is ours theirs firsts = rw (is, ours, theirs) (union_given a b w firsts)

  -- A symmetric difference goes over two equal items, and gives one that has no equal.
  module _ (s' t' s t : List T) (w : Sides T) (same : symmetric_difference cmp s' t' ≡ symmetric_difference cmp s t) (alike : BothAlike cmp s t s' t') where
    pub symmetric_goes_on : (x y : T) → s ≡ x ∷ w.left → t ≡ y ∷ w.right → AreFirsts cmp (Some x) (Some y) w
        → (symmetric_difference cmp s' t' ≡ symmetric_difference cmp w.left w.right) × BothAlike cmp w.left w.right s' t'
    symmetric_goes_on x y e f firsts =
        let ours : AreAlike cmp w.left (x ∷ w.left) s' = (subst (λ l. AreAlike cmp l l s') e alike.0.0).1 in
        let over_ours : AreAlike cmp w.left (y ∷ w.right) t' = (subst (λ l. AreAlike cmp (x ∷ w.left) l t') f
        (subst (λ l. AreAlike cmp l t t') e alike.0.1)).1 in
        let over_theirs : AreAlike cmp w.right (x ∷ w.left) s' = (subst (λ l. AreAlike cmp (y ∷ w.right) l s') e
        (subst (λ l. AreAlike cmp l s s') f alike.1.0)).1 in
        let theirs : AreAlike cmp w.right (y ∷ w.right) t' = (subst (λ l. AreAlike cmp l l t') f alike.1.1).1 in (
          same ∙ ap (λ l. symmetric_difference cmp l t) e ∙ ap (λ l. symmetric_difference cmp (x ∷ w.left) l) f
              ∙ symmetric_tied cmp total w.left w.right x y firsts.0 firsts.1 firsts.2,
          (
            (
              alike_after cmp w.left w.left s' x firsts.1 ours,
              alike_after cmp w.left w.right t' y
                  (below_tied cmp total y x w.left (tied_back cmp total x y firsts.0) firsts.1) over_ours,
            ),
            (
              alike_after cmp w.right w.left s' x (below_tied cmp total x y w.right firsts.0 firsts.2) over_theirs,
              alike_after cmp w.right w.right t' y firsts.2 theirs,
            ),
          ),
        )

    pub symmetric_ours_given : (x : Bor T) → s ≡ x.now ∷ w.left → t ≡ w.right → AreFirsts cmp (Some x.now) None w
        → IsStep (symmetric_difference cmp) (Some x) s' t' w
    symmetric_ours_given x e f firsts =
        let left : greater cmp s x.now ≡ greater cmp s' x.now = (subst (λ l. AreAlike cmp l s s') e alike.0.0).0 in
        let right : greater cmp t x.now ≡ greater cmp t' x.now = (subst (λ l. AreAlike cmp l t t') e alike.0.1).0 in (
          same ∙ ap (λ l. symmetric_difference cmp l t) e ∙ ap (λ l. symmetric_difference cmp (x.now ∷ w.left) l) f
              ∙ symmetric_ours cmp total w.left w.right x.now firsts.0 firsts.1,
          sym (after_first cmp total x.now w.left firsts.0) ∙ ap (λ l. greater cmp l x.now) (sym e) ∙ left,
          sym (greater_all cmp total x.now w.right firsts.1) ∙ ap (λ l. greater cmp l x.now) (sym f) ∙ right,
        )

    pub symmetric_theirs_given : (r : Option (Bor T)) → s ≡ w.left → t ≡ option_to_list (option_copied r) ++ w.right → AreFirsts cmp None (option_copied r) w
        → IsStep (symmetric_difference cmp) r s' t' w
    symmetric_theirs_given None e f firsts = (
      same ∙ ap (λ l. symmetric_difference cmp l t) (e ∙ firsts.0)
          ∙ ap (λ l. symmetric_difference cmp [] l) (f ∙ firsts.1),
      firsts.0,
      firsts.1,
    )
    symmetric_theirs_given (Some y) e f firsts =
        let left : greater cmp s y.now ≡ greater cmp s' y.now = (subst (λ l. AreAlike cmp l s s') f alike.1.0).0 in
        let right : greater cmp t y.now ≡ greater cmp t' y.now = (subst (λ l. AreAlike cmp l t t') f alike.1.1).0 in (
          same ∙ ap (λ l. symmetric_difference cmp l t) e ∙ ap (λ l. symmetric_difference cmp w.left l) f
              ∙ symmetric_theirs cmp total w.left w.right y.now firsts.0 firsts.1,
          sym (greater_all cmp total y.now w.left firsts.0) ∙ ap (λ l. greater cmp l y.now) (sym e) ∙ left,
          sym (after_first cmp total y.now w.right firsts.1) ∙ ap (λ l. greater cmp l y.now) (sym f) ∙ right,
        )

    -- The same by what two walks side by side gave.
    module _ (a b : Option (Bor T)) (ours : s ≡ option_to_list (option_copied a) ++ w.left) (theirs : t ≡ option_to_list (option_copied b) ++ w.right)
        (firsts : AreFirsts cmp (option_copied a) (option_copied b) w) where
      pub symmetric_theirs_step : a ≡ None → IsStep (symmetric_difference cmp) b s' t' w
      symmetric_theirs_step e =
          symmetric_theirs_given b (subst (λ o. s ≡ option_to_list (option_copied o) ++ w.left) e ours) theirs
          (subst (λ o. AreFirsts cmp (option_copied o) (option_copied b) w) e firsts)

      pub symmetric_ours_step : (x : Bor T) → a ≡ Some x → b ≡ None → IsStep (symmetric_difference cmp) (Some x) s' t' w
      symmetric_ours_step x e f =
          symmetric_ours_given x (subst (λ o. s ≡ option_to_list (option_copied o) ++ w.left) e ours)
          (subst (λ o. t ≡ option_to_list (option_copied o) ++ w.right) f theirs)
          (subst (λ o. AreFirsts cmp (Some x.now) (option_copied o) w) f (subst (λ o. AreFirsts cmp (option_copied o) (option_copied b) w) e firsts))

      pub symmetric_on_step : (x y : Bor T) → a ≡ Some x → b ≡ Some y → (symmetric_difference cmp s' t' ≡ symmetric_difference cmp w.left w.right)
          × BothAlike cmp w.left w.right s' t'
      symmetric_on_step x y e f =
          symmetric_goes_on x.now y.now (subst (λ o. s ≡ option_to_list (option_copied o) ++ w.left) e ours)
          (subst (λ o. t ≡ option_to_list (option_copied o) ++ w.right) f theirs)
          (subst (λ o. AreFirsts cmp (Some x.now) (option_copied o) w) f (subst (λ o. AreFirsts cmp (option_copied o) (option_copied b) w) e firsts))

  module _ (s t s' t' : List T) (x : T) where
    pub apart_tied : (y : T) → cmp x y ≡ Equal → IsApart cmp (x ∷ s) (y ∷ t) s' t' → IsApart cmp s t s' t'
    apart_tied y e a = (
      a.0 ∙ difference_tied cmp total s t x y e a.1.0.0,
      (a.1.0.1, a.1.1.1),
      (alike_after cmp s s s' x a.1.0.0 a.2.0.1, alike_after cmp s t t' y (below_tied cmp total y x s (tied_back cmp total x y e) a.1.0.0) a.2.1.1),
    )

    pub apart_after : (y : T) → cmp x y ≡ Greater → IsApart cmp (x ∷ s) (y ∷ t) s' t' → IsApart cmp (x ∷ s) t s' t'
    apart_after y e a =
        let less : cmp y x ≡ Less = under_one cmp total y x e in
        let below : IsBelow cmp y (x ∷ s) = (less, below_on cmp total y x s less a.1.0.0) in
        (a.0 ∙ difference_after cmp (x ∷ s) t y below, (a.1.0, a.1.1.1), (a.2.0, alike_after cmp (x ∷ s) t t' y below a.2.1))

    apart_found : IsBelow cmp x t → IsApart cmp (x ∷ s) t s' t' → (difference cmp s' t' ≡ x ∷ difference cmp s t) × (s ≡ greater cmp s' x)
        × (t ≡ greater cmp t' x)
    apart_found below a =
        (a.0 ∙ difference_ours cmp total s t x below, sym (after_first cmp total x s a.1.0.0) ∙ a.2.0.0, sym (greater_all cmp total x t below) ∙ a.2.1.0)

    pub apart_less : (y : T) → t ≡ y ∷ drop 1 t → cmp x y ≡ Less → IsApart cmp (x ∷ s) t s' t'
        → (difference cmp s' t' ≡ x ∷ difference cmp s t) × (s ≡ greater cmp s' x) × (t ≡ greater cmp t' x)
    apart_less y f e a = apart_found (subst (IsBelow cmp x) (sym f) (e, below_on cmp total x y (drop 1 t) e (subst (AreAscending cmp) f a.1.1).0)) a

    pub apart_alone : t ≡ [] → IsApart cmp (x ∷ s) t s' t' → (difference cmp s' t' ≡ x ∷ difference cmp s t) × (s ≡ greater cmp s' x) × (t ≡ greater cmp t' x)
    apart_alone f a = apart_found (subst (IsBelow cmp x) (sym f) tt) a

  pub common_begins : (s t : List T) → AreAscending cmp s → AreAscending cmp t → IsCommon cmp s t s t
  common_begins s t a b = (refl, (a, b), (alike_itself cmp s s, alike_itself cmp s t), refl)

  module _ (s t s' t' : List T) (x y : T) where
    pub common_less : cmp x y ≡ Less → IsCommon cmp (x ∷ s) (y ∷ t) s' t' → IsCommon cmp s (y ∷ t) s' t'
    common_less e a =
        let below : IsBelow cmp x (y ∷ t) = (e, below_on cmp total x y t e a.1.1.0) in (
          a.0 ∙ common_ours cmp total s (y ∷ t) x below,
          (a.1.0.1, a.1.1),
          (alike_after cmp s s s' x a.1.0.0 a.2.0.1, a.2.1.1),
          a.3
              ∙ untaken_ours cmp s t x y (over_one cmp total x y e),
        )

    pub common_greater : cmp x y ≡ Greater → IsCommon cmp (x ∷ s) (y ∷ t) s' t' → IsCommon cmp (x ∷ s) t s' t'
    common_greater e a =
        let less : cmp y x ≡ Less = under_one cmp total y x e in
        let below : IsBelow cmp y (x ∷ s) = (less, below_on cmp total y x s less a.1.0.0) in (
          a.0 ∙ common_after cmp (x ∷ s) t y below,
          (a.1.0, a.1.1.1),
          (a.2.0, alike_after cmp (x ∷ s) t t' y below a.2.1),
          a.3
              ∙ untaken_after cmp (x ∷ s) t y below,
        )

    pub common_equal : cmp x y ≡ Equal → IsCommon cmp (x ∷ s) (y ∷ t) s' t'
        → (common cmp s' t' ≡ x ∷ common cmp s t) × (s ≡ greater cmp s' x) × (t ≡ greater cmp t' x)
    common_equal e a =
        let after : greater cmp (y ∷ t) x ≡ greater cmp t x = rw (tied_back cmp total x y e) refl in (
          a.0 ∙ common_tied cmp total s t x y e a.1.0.0,
          sym (after_first cmp total x s a.1.0.0)
              ∙ a.2.0.0,
          sym (greater_all cmp total x t (below_tied cmp total x y t e a.1.1.0)) ∙ sym after ∙ a.2.1.0,
        )

  -- It ends with either side.
  pub common_ours_end : (s t s' t' : List T) → s ≡ [] → IsCommon cmp s t s' t' → (common cmp s' t' ≡ []) × (untaken cmp s' t' ≡ [])
  common_ours_end s t s' t' e a = (a.0 ∙ ap (λ l. common cmp l t) e, a.3 ∙ ap (λ l. untaken cmp l t) e)

  pub common_theirs_end : (s t s' t' : List T) (x : T) → t ≡ [] → IsCommon cmp (x ∷ s) t s' t' → (common cmp s' t' ≡ []) × (untaken cmp s' t' ≡ s)
  common_theirs_end s t s' t' x e a = (a.0 ∙ ap (common cmp (x ∷ s)) e ∙ common_of_none cmp (x ∷ s), a.3 ∙ ap (untaken cmp (x ∷ s)) e ∙ untaken_of_none cmp x s)

  pub common_init : (s u t v : List T) (x y : T) → s ≡ x ∷ u → t ≡ y ∷ v → AreAscending cmp s → AreAscending cmp t → IsCommon cmp (x ∷ u) (y ∷ v) s t
  common_init s u t v x y e f a b = subst (λ l. IsCommon cmp l (y ∷ v) s t) e (subst (λ l. IsCommon cmp s l s t) f (common_begins s t a b))

  pub common_alone : (s u t : List T) (x : T) → s ≡ x ∷ u → t ≡ [] → (common cmp s t ≡ []) × (untaken cmp s t ≡ u)
  common_alone s u t x e f = (ap (common cmp s) f ∙ common_of_none cmp s, ap (untaken cmp s) f ∙ ap (λ l. untaken cmp l []) e ∙ untaken_of_none cmp x u)

  -- By the operation that it gives the items of.
  module _ (operation : List T → List T) where
    module _ (s u s' : List T) (x : T) (e : s ≡ x ∷ u) (a : IsSought cmp operation s s') where
      here : IsSought cmp operation (x ∷ u) s'
      here = subst (λ l. IsSought cmp operation l s') e a

      pub sought_after : operation (x ∷ u) ≡ operation u → IsSought cmp operation u s'
      sought_after p = (here.0 ∙ p, here.1.1, alike_after cmp u u s' x here.1.0 here.2.1)

      pub sought_found : operation (x ∷ u) ≡ x ∷ operation u → (operation s' ≡ x ∷ operation u) × (u ≡ greater cmp s' x)
      sought_found p = (here.0 ∙ p, sym (after_first cmp total x u here.1.0) ∙ here.2.0)

-- Whether an item was found decides on it.
module _ {T : Type 0} (cmp : T → T → Ordering) (s t : List T) (x : T) (there : Bool) (found : IsTrue there ↔ IsSome (item_at cmp t x)) where
  pub difference_not_found : there ≡ false → difference cmp (x ∷ s) t ≡ x ∷ difference cmp s t
  difference_not_found e = rw (not_there there (item_at cmp t x) found e) refl

  pub difference_found : there ≡ true → difference cmp (x ∷ s) t ≡ difference cmp s t
  difference_found e = rw (found.0 e) refl

  pub common_not_found : there ≡ false → common cmp (x ∷ s) t ≡ common cmp s t
  common_not_found e = rw (not_there there (item_at cmp t x) found e) refl

  pub common_found : there ≡ true → common cmp (x ∷ s) t ≡ x ∷ common cmp s t
  common_found e = rw (found.0 e) refl
