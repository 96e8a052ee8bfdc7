-- Laws of items that are put in, in turn: those of each key count alone, and so does their order. No other ascending list has the same pair at each key.
-- A caller names one on a function, as `#[tactic(auto, using(fc_laws::proofs::Laws::extended_stable))]`, or cites it in an answer.
use Rattle.std.proofs.Common.{◌≡◌, false, not, cond, List, [], ◌∷◌, ◌++◌, Some, None, refl, sym, ap, ◌∙◌}
use Rattle.std.specs.Prelude.{unwrap_or, ◌&&◌}
use Rattle.std.specs.List.{AllByRecursion, filter}
use Rattle.std.specs.List.Sorted.{ties, IsStableByKey}
use Rattle.std.specs.Option.{option_map}
use Rattle.std.specs.Cmp.{IsTotalOrder}
use Rattle.std.specs.Ordering.{is_lt, is_eq, ordering_reverse}
use Rattle.std.specs.declared.cmp.Ordering.{Ordering}
use Rattle.std.specs.declared.cmp.Ordering.TheVariants.{Less, Equal, Greater}
use Rattle.std.proofs.lemmas.Cmp.{tied_itself}
use Rattle.fc_base.specs.Ascending.{IsAscending}
use Rattle.fc_base.specs.Extended.{extended}
use Rattle.fc_base.specs.OneKey.{put}
use Rattle.fc_base.specs.Parts.{at}
use Rattle.fc_base.specs.Query.{IsQueryOrder}
use Rattle.fc_base.specs.Viewed.{over_one, own_order}
use Rattle.fc_base.proofs.Laws.{at_equal, at_put, at_put_other, ascending_put}

module _ {K Q V : Type 0} (cmp : K → K → Ordering) (order : K → Q → Ordering) (total : IsTotalOrder cmp) (fits : IsQueryOrder cmp order) (q : Q) where
  -- nothing stands after a pair at a query that is not above it
  pub none_after : (e : K × V) (s : List (K × V)) → is_lt (order e.0 q) ≡ false → AllByRecursion (λ x. cmp e.0 x.0 ≡ Less) s → at order s q ≡ None
  none_after e [] h a = refl
  none_after e (x ∷ s) h a = rw (over (order e.0 q) refl h) (none_after e s h a.1)
    where
      over : (r : Ordering) → order e.0 q ≡ r → is_lt r ≡ false → order x.0 q ≡ Greater
      over Less i n = absurd cc
      over Equal i n = fits.after q e.0 x.0 a.0 i
      over Greater i n = fits.upper q e.0 x.0 a.0 i

-- two keys of which neither is less are equal
tied : {K : Type 0} (cmp : K → K → Ordering) (total : IsTotalOrder cmp) (a b : K) (r : Ordering) → cmp a b ≡ r
    → (not (is_lt (cmp a b)) && not (is_lt (cmp b a))) ≡ is_eq r
tied cmp total a b r i = let j : cmp b a ≡ ordering_reverse r = total.antisymm b a ∙ ap ordering_reverse i in rw (i, j) (go r)
  where
    go : (r : Ordering) → (not (is_lt r) && not (is_lt (ordering_reverse r))) ≡ is_eq r
    go Less = refl
    go Equal = refl
    go Greater = refl

module _ {K V : Type 0} (cmp : K → K → Ordering) where
  at_head : (x : K × V) (s : List (K × V)) → IsTotalOrder cmp → at cmp (x ∷ s) x.0 ≡ Some x
  at_head x s total = rw (tied_itself total x.0) refl

  -- Two ascending lists with the same pair at each key are one list.
  pub same_pairs : (s t : List (K × V)) → IsTotalOrder cmp → IsAscending cmp s → IsAscending cmp t → ((k : K) → at cmp s k ≡ at cmp t k) → s ≡ t
  same_pairs [] [] total a b same = refl
  same_pairs [] (y ∷ t) total a b same = absurd (let h : None ≡ Some y = same y.0 ∙ at_head y t total in cc)
  same_pairs (x ∷ s) [] total a b same = absurd (let h : Some x ≡ None = sym (at_head x s total) ∙ same x.0 in cc)
  same_pairs (x ∷ s) (y ∷ t) total a b same = heads (cmp y.0 x.0) refl (same_pairs s t total a.1 b.1)
    where
      none : (k : K) (e : K × V) (u : List (K × V)) → is_lt (cmp e.0 k) ≡ false → AllByRecursion (λ z. cmp e.0 z.0 ≡ Less) u → at cmp u k ≡ None
      none k = none_after cmp cmp total (own_order total) k

      rest : (k : K) (r : Ordering) → cmp x.0 k ≡ r → x ≡ y → cond (is_eq r) (Some x) (at cmp s k) ≡ cond (is_eq r) (Some x) (at cmp t k)
          → at cmp s k ≡ at cmp t k
      rest k Less i e h = h
      rest k Equal i e h = none k x s (ap is_lt i) a.0 ∙ sym (none k y t (ap (λ (z : K × V). is_lt (cmp z.0 k)) (sym e) ∙ ap is_lt i) b.0)
      rest k Greater i e h = h

      heads : (r : Ordering) → cmp y.0 x.0 ≡ r → (((k : K) → at cmp s k ≡ at cmp t k) → s ≡ t) → x ∷ s ≡ y ∷ t
      heads Less i more =
          let g = over_one cmp total y.0 x.0 i in
          let f : at cmp (x ∷ s) y.0 ≡ None = rw g (none y.0 x s (ap is_lt g) a.0) in
          absurd (let h : None ≡ Some y = sym f ∙ same y.0 ∙ at_head y t total in cc)
      heads Equal i more =
          let h : Some x ≡ Some y = sym (at_head x s total) ∙ same x.0 ∙ rw i refl in
          let e : x ≡ y = cc in
          let f = more (λ k. rest k (cmp x.0 k) refl e (same k ∙ ap (λ (z : K × V). at cmp (z ∷ t) k) (sym e))) in
          λ j. e j ∷ f j
      heads Greater i more =
          let f : at cmp (y ∷ t) x.0 ≡ None = rw i (none x.0 y t (ap is_lt i) b.0) in
          absurd (let h : Some x ≡ None = sym (at_head x s total) ∙ same x.0 ∙ f in cc)

  more : (s items : List (K × V)) (e : K × V) → put cmp (extended cmp s items) e.0 e.1 ≡ extended cmp s (items ++ e ∷ [])
  more s [] e = refl
  more s (i ∷ items) e = more (put cmp s i.0 i.1) items e

  -- One more item is put into what those before it made.
  pub extended_more : (s items old new : List (K × V)) (k : K) (v : V) → old ≡ extended cmp s items → new ≡ put cmp old k v
      → new ≡ extended cmp s (items ++ (k, v) ∷ [])
  extended_more s items old new k v e f = f ∙ ap (λ l. put cmp l k v) e ∙ more s items (k, v)

  -- A list that ascends does so with all items put in.
  pub ascending_extended : (s items : List (K × V)) → IsTotalOrder cmp → IsAscending cmp s → IsAscending cmp (extended cmp s items)
  ascending_extended s [] total a = a
  ascending_extended s (e ∷ items) total a = ascending_extended (put cmp s e.0 e.1) items total (ascending_put cmp s e.0 e.1 total a)

  module _ (total : IsTotalOrder cmp) where
    -- what stands at a key after a pair was put hangs on what stood there before
    same_put : (s t : List (K × V)) (k : K) (v : V) (j : K) → at cmp s j ≡ at cmp t j → at cmp (put cmp s k v) j ≡ at cmp (put cmp t k v) j
    same_put s t k v j same = go (cmp j k) refl
      where
        apart : (r : Ordering) → cmp j k ≡ r → (r ≡ Equal → ⊥) → at cmp (put cmp s k v) j ≡ at cmp (put cmp t k v) j
        apart r i other =
            at_put_other cmp s k v j total (λ h. other (sym i ∙ h)) ∙ same ∙ sym (at_put_other cmp t k v j total (λ h. other (sym i ∙ h)))

        go : (r : Ordering) → cmp j k ≡ r → at cmp (put cmp s k v) j ≡ at cmp (put cmp t k v) j
        go Less i = apart Less i (λ h. cc)
        go Equal i =
            let there = sym (at_equal cmp s k j total i) ∙ same ∙ at_equal cmp t k j total i in
            at_equal cmp (put cmp s k v) k j total i ∙ at_put cmp s k v total
            ∙ ap (λ o. Some (unwrap_or (option_map (λ (e : K × V). e.0) o) k, v)) there
            ∙ sym (at_put cmp t k v total) ∙ sym (at_equal cmp (put cmp t k v) k j total i)
        go Greater i = apart Greater i (λ h. cc)

    same_extended : (s t items : List (K × V)) (j : K) → at cmp s j ≡ at cmp t j → at cmp (extended cmp s items) j ≡ at cmp (extended cmp t items) j
    same_extended s t [] j same = same
    same_extended s t (e ∷ items) j same = same_extended (put cmp s e.0 e.1) (put cmp t e.0 e.1) items j (same_put s t e.0 e.1 j same)

    -- what stands at a key hangs on the items of that key alone
    abbrev of : K × V → List (K × V) → List (K × V)
    of x items = filter (ties (λ (a b : K × V). is_lt (cmp a.0 b.0)) x) items

    only_own : (s items : List (K × V)) (x : K × V) → at cmp (extended cmp s items) x.0 ≡ at cmp (extended cmp s (of x items)) x.0
    only_own s [] x = refl
    only_own s (e ∷ items) x =
        go (cmp x.0 e.0) refl (only_own (put cmp s e.0 e.1) items x)
        ∙ ap (λ b. at cmp (extended cmp s (cond b (e ∷ of x items) (of x items))) x.0) (sym (tied cmp total x.0 e.0 (cmp x.0 e.0) refl))
      where
        apart : (r : Ordering) → cmp x.0 e.0 ≡ r → (r ≡ Equal → ⊥)
            → at cmp (extended cmp (put cmp s e.0 e.1) items) x.0 ≡ at cmp (extended cmp (put cmp s e.0 e.1) (of x items)) x.0
            → at cmp (extended cmp (put cmp s e.0 e.1) items) x.0 ≡ at cmp (extended cmp s (of x items)) x.0
        apart r i other own =
            own ∙ same_extended (put cmp s e.0 e.1) s (of x items) x.0 (at_put_other cmp s e.0 e.1 x.0 total (λ h. other (sym i ∙ h)))

        go : (r : Ordering) → cmp x.0 e.0 ≡ r
            → at cmp (extended cmp (put cmp s e.0 e.1) items) x.0 ≡ at cmp (extended cmp (put cmp s e.0 e.1) (of x items)) x.0
            → at cmp (extended cmp (put cmp s e.0 e.1) items) x.0 ≡ at cmp (extended cmp s (cond (is_eq r) (e ∷ of x items) (of x items))) x.0
        go Less i own = apart Less i (λ h. cc) own
        go Equal i own = own
        go Greater i own = apart Greater i (λ h. cc) own

  -- Items that are put in in turn make the same list in each order that leaves those of equal keys in theirs, as a stable sort does.
  pub extended_stable : (s items sorted : List (K × V)) → IsTotalOrder cmp → IsAscending cmp s → IsStableByKey (λ (e : K × V). e.0) cmp items sorted
      → extended cmp s sorted ≡ extended cmp s items
  extended_stable s [] [] total a stable = refl
  extended_stable s [] (y ∷ ys) total a stable =
      absurd (let h = ap (λ b. cond b (y ∷ of total y ys) (of total y ys)) (sym (tied cmp total y.0 y.0 Equal (tied_itself total y.0))) ∙ stable y in cc)
  extended_stable s (x ∷ xs) ys total a stable =
      same_pairs (extended cmp s ys) (extended cmp s (x ∷ xs)) total (ascending_extended s ys total a) (ascending_extended s (x ∷ xs) total a)
      (λ k. only_own total s ys (k, x.1) ∙ ap (λ l. at cmp (extended cmp s l) k) (stable (k, x.1)) ∙ sym (only_own total s (x ∷ xs) (k, x.1)))
