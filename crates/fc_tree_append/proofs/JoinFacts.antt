-- What stands first in two lists that are joined.
use Rattle.std.proofs.Common.{◌≡◌, ◌<◌, ◌↔◌, length, arith, List, [], ◌∷◌, ◌++◌, refl, sym, ap, ◌∙◌, subst, cond, append_assoc, append-nil, ◌⊎◌, inl, inr}
use Rattle.std.specs.Prelude.{Bool, false, IsTrue}
use Rattle.std.proofs.lemmas.Bool.{false≢true}
use Rattle.std.specs.List.{AllByRecursion}
use Rattle.std.specs.Ordering.{is_lt, is_gt}
use Rattle.std.specs.Cmp.{IsTotalOrder}
use Rattle.std.specs.declared.cmp.Ordering.{Ordering}
use Rattle.std.specs.declared.cmp.Ordering.TheVariants.{Less, Equal, Greater}
use Rattle.fc_base.specs.Ascending.{IsAscending}
use Rattle.fc_base.specs.Parts.{below, above}
use Rattle.fc_base.specs.Joined.{placed, joined}
use Rattle.fc_base.specs.Viewed.{over_one}
use Rattle.fc_base.proofs.AscendingFacts.{under_one, all_map}

module _ {K V : Type 0} (cmp : K → K → Ordering) where
  placed_below : (x e : K × V) (s : List (K × V)) → cmp x.0 e.0 ≡ Less → placed cmp (x ∷ s) e ≡ x ∷ placed cmp s e
  placed_below x e s h = ap (λ o. cond (is_lt o) (x ∷ below cmp s e.0) (below cmp s e.0) ++ e ∷ cond (is_gt o) (x ∷ above cmp s e.0) (above cmp s e.0)) h

  -- a first pair that is below all of the other list
  joined_below : (x : K × V) (s t : List (K × V)) → AllByRecursion (λ e. cmp x.0 e.0 ≡ Less) t → joined cmp (x ∷ s) t ≡ x ∷ joined cmp s t
  joined_below x s [] a = refl
  joined_below x s (e ∷ t) a = ap (λ l. joined cmp l t) (placed_below x e s a.0) ∙ joined_below x (placed cmp s e) t a.1

  none_below : (e : K × V) (s : List (K × V)) → AllByRecursion (λ x. cmp x.0 e.0 ≡ Greater) s → below cmp s e.0 ≡ []
  none_below e [] a = refl
  none_below e (x ∷ s) a = ap (λ o. cond (is_lt o) (x ∷ below cmp s e.0) (below cmp s e.0)) a.0 ∙ none_below e s a.1

  all_over : (e : K × V) (s : List (K × V)) → AllByRecursion (λ x. cmp x.0 e.0 ≡ Greater) s → above cmp s e.0 ≡ s
  all_over e [] a = refl
  all_over e (x ∷ s) a = ap (λ o. cond (is_gt o) (x ∷ above cmp s e.0) (above cmp s e.0)) a.0 ∙ ap (λ zs. x ∷ zs) (all_over e s a.1)

  placed_first : (e : K × V) (s : List (K × V)) → AllByRecursion (λ x. cmp x.0 e.0 ≡ Greater) s → placed cmp s e ≡ e ∷ s
  placed_first e s a = ap (λ zs. zs ++ e ∷ above cmp s e.0) (none_below e s a) ∙ ap (λ zs. e ∷ zs) (all_over e s a)

  placed_equal : (x e : K × V) (s : List (K × V)) → cmp x.0 e.0 ≡ Equal → placed cmp (x ∷ s) e ≡ placed cmp s e
  placed_equal x e s h = ap (λ o. cond (is_lt o) (x ∷ below cmp s e.0) (below cmp s e.0) ++ e ∷ cond (is_gt o) (x ∷ above cmp s e.0) (above cmp s e.0)) h

  pub joined_none : (t : List (K × V)) → IsAscending cmp t → joined cmp [] t ≡ t
  joined_none [] a = refl
  joined_none (e ∷ t) a = joined_below e [] t a.0 ∙ ap (λ zs. e ∷ zs) (joined_none t a.1)

  module _ (total : IsTotalOrder cmp) (x e : K × V) (s t : List (K × V)) (a : IsAscending cmp (x ∷ s)) (b : IsAscending cmp (e ∷ t)) where
    joined_less : cmp x.0 e.0 ≡ Less → joined cmp (x ∷ s) (e ∷ t) ≡ x ∷ joined cmp s (e ∷ t)
    joined_less h = joined_below x s (e ∷ t) (h, all_map _ _ (λ y l. total.trans x.0 e.0 y.0 h l) t b.0)

    joined_equal : cmp x.0 e.0 ≡ Equal → joined cmp (x ∷ s) (e ∷ t) ≡ e ∷ joined cmp s t
    joined_equal h =
        ap (λ l. joined cmp l t) (placed_equal x e s h ∙ placed_first e s
        (all_map _ _ (λ y l. over_one cmp total e.0 y.0 (sym (total.congr x.0 e.0 y.0 h) ∙ l)) s a.0))
        ∙ joined_below e s t b.0

    joined_greater : cmp x.0 e.0 ≡ Greater → joined cmp (x ∷ s) (e ∷ t) ≡ e ∷ joined cmp (x ∷ s) t
    joined_greater h =
        ap (λ l. joined cmp l t) (placed_first e (x ∷ s)
        (h, all_map _ _ (λ y l. over_one cmp total e.0 y.0 (total.trans e.0 x.0 y.0 (under_one cmp total e.0 x.0 h) l)) s a.0))
        ∙ joined_below e (x ∷ s) t b.0

  -- ---- what is put after the pairs before, and what is left to be joined

  same_head : (x y : K × V) (s t l : List (K × V)) → l ≡ x ∷ s → l ≡ y ∷ t → x ≡ y
  same_head x y s t l e f = cc (e, f)

  moved : (old new j k : List (K × V)) (p : K × V) → new ≡ old ++ p ∷ [] → k ≡ p ∷ j → new ++ j ≡ old ++ k
  moved old new j k p e f = ap (λ zs. zs ++ j) e ∙ append_assoc old (p ∷ []) j ∙ ap (λ zs. old ++ zs) (sym f)

  module _ (total : IsTotalOrder cmp) (l r : List (K × V)) (x e : K × V) (s t : List (K × V)) (f : l ≡ x ∷ s) (g : r ≡ e ∷ t) (a : IsAscending cmp l)
      (b : IsAscending cmp r) (old new : List (K × V)) where
    pub step_less : (p : K × V) (u : List (K × V)) → l ≡ p ∷ u → cmp x.0 e.0 ≡ Less → new ≡ old ++ p ∷ [] → new ++ joined cmp u r ≡ old ++ joined cmp l r
    step_less p u i h n =
        let q = same_head p x u s l i f in
        let k = joined_less total p e u t (subst (IsAscending cmp) i a) (subst (IsAscending cmp) g b) (ap (λ y. cmp y.0 e.0) q ∙ h) in
        moved old new (joined cmp u r) (joined cmp l r) p n
        (ap (λ y. joined cmp y r) i ∙ ap (λ y. joined cmp (p ∷ u) y) g ∙ k ∙ ap (λ y. p ∷ joined cmp u y) (sym g))

    pub step_equal : (p q : K × V) (u v : List (K × V)) → l ≡ p ∷ u → r ≡ q ∷ v → cmp x.0 e.0 ≡ Equal → new ≡ old ++ q ∷ []
        → new ++ joined cmp u v ≡ old ++ joined cmp l r
    step_equal p q u v i j h n =
        let c = same_head p x u s l i f in
        let d = same_head q e v t r j g in
        let k = joined_equal total p q u v (subst (IsAscending cmp) i a) (subst (IsAscending cmp) j b)
        (ap (λ y. cmp y.0 q.0) c ∙ ap (λ y. cmp x.0 y.0) d ∙ h) in
        moved old new (joined cmp u v) (joined cmp l r) q n (ap (λ y. joined cmp y r) i ∙ ap (λ y. joined cmp (p ∷ u) y) j ∙ k)

    pub step_greater : (q : K × V) (v : List (K × V)) → r ≡ q ∷ v → cmp x.0 e.0 ≡ Greater → new ≡ old ++ q ∷ [] → new ++ joined cmp l v ≡ old ++ joined cmp l r
    step_greater q v j h n =
        let d = same_head q e v t r j g in
        let k = joined_greater total x q s v (subst (IsAscending cmp) f a) (subst (IsAscending cmp) j b) (ap (λ y. cmp x.0 y.0) d ∙ h) in
        moved old new (joined cmp l v) (joined cmp l r) q n
        (ap (λ y. joined cmp y r) f ∙ ap (λ y. joined cmp (x ∷ s) y) j ∙ k ∙ ap (λ y. q ∷ joined cmp y v) (sym f))

  -- once one list has no more, what is left of the other comes after
  pub drained : (old f t : List (K × V)) → (f ≡ []) ⊎ (t ≡ []) → IsAscending cmp t → (old ++ f) ++ t ≡ old ++ joined cmp f t
  drained old f t (inl e) a =
      ap (λ zs. (old ++ zs) ++ t) e ∙ ap (λ zs. zs ++ t) (append-nil old) ∙ ap (λ zs. old ++ zs) (sym (joined_none t a))
      ∙ ap (λ zs. old ++ joined cmp zs t) (sym e)
  drained old f t (inr e) a = ap (λ zs. (old ++ f) ++ zs) e ∙ append-nil (old ++ f) ∙ ap (λ zs. old ++ joined cmp f zs) (sym e)

module _ {X : Type 0} where
  -- an item goes over from one list's front to another's end
  pub gone_over : (old new given pairs rest : List X) (x : X) → pairs ≡ x ∷ rest → new ≡ old ++ x ∷ [] → old ++ pairs ≡ given → new ++ rest ≡ given
  gone_over old new given pairs rest x e f h = ap (λ zs. zs ++ rest) f ∙ append_assoc old (x ∷ []) rest ∙ ap (λ zs. old ++ zs) (sym e) ∙ h

  pub all_gone_over : (old given rest : List X) → rest ≡ [] → old ++ rest ≡ given → old ≡ given
  all_gone_over old given rest e h = sym (append-nil old) ∙ ap (λ zs. old ++ zs) (sym e) ∙ h

  -- a list that is told to have an item
  pub some_left : (b : Bool) (xs : List X) → IsTrue b ↔ (length xs ≡ 0) → b ≡ false → 0 < length xs
  some_left b [] e some = absurd (false≢true (sym some ∙ e.1 refl))
  some_left b (x ∷ xs) e some = omega arith
