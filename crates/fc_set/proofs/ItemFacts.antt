-- Each word on lists of items, at the keys of a list of pairs, is the word on pairs.
use Rattle.std.proofs.Common.{◌≡◌, Bool, true, false, cond, List, [], ◌∷◌, ◌++◌, map, filter, find, length, slice_get, ℕ, zero, suc, Any, Option, Some, None}
use Rattle.std.proofs.Common.{is_some, IsSome, IsTrue, IfOk, Result, Ok, Err, not, ◌↔◌, ◌⊎◌, inl, inr, refl, sym, ap, ◌∙◌, subst, arith}
use Rattle.std.specs.Prelude.{unwrap_or, ◌&&◌}
use Rattle.std.specs.List.{AllByRecursion, AllZip}
use Rattle.std.specs.Option.{option_map}
use Rattle.std.specs.declared.cmp.Ordering.{Ordering}
use Rattle.std.specs.declared.cmp.Ordering.TheVariants.{Less}
use Rattle.std.specs.declared.ops.Bound.{Bound}
use Rattle.std.proofs.lemmas.List.{map-append, length-map}
use Rattle.fc_base.specs.declared.try_reserve_error.TryReserveError.{TryReserveError}
use Rattle.fc_base.specs.Ascending.{IsAscending}
use Rattle.fc_base.specs.Copies.{MayRefuseCopies, MayRefusePair}
use Rattle.fc_base.specs.Halves.{not_below}
use Rattle.fc_base.specs.Joined.{placed, joined}
use Rattle.fc_base.specs.OneKey.{put, cut}
use Rattle.fc_base.specs.Parts.{below, above, at, value_at}
use Rattle.fc_base.specs.Ranges.{starts, stops, within}
use Rattle.fc_map.specs.Ranged.{before_range, after_range, outside, replacing}
use Rattle.fc_set.specs.Items.{item_at, smaller, greater, not_smaller, without, AreAscending, with_item, with_replaced, joined_items}
use Rattle.fc_set.specs.Items.{items_within, items_outside, items_replacing}

-- What holds of some item of a list holds of some item after another one too.
pub any_later : {T : Type 0} (P : T → Type 0) (x : T) (s : List T) → Any P s → Any P (x ∷ s)
any_later P x s a = (suc a.0, a.1, omega (arith, a.2), a.3, a.4)

module _ {T V : Type 0} where
  -- The keys of pairs.
  abbrev pub keys : List (T × V) → List T
  keys s = map (λ e. e.0) s

  pub filter_keys : (p : T → Bool) (s : List (T × V)) → filter p (keys s) ≡ keys (filter (λ e. p e.0) s)
  filter_keys p [] = refl
  filter_keys p (e ∷ s) =
      elim (p e.0) as (λ b. cond b (e.0 ∷ filter p (keys s)) (filter p (keys s)) ≡ keys (cond b (e ∷ filter (λ y. p y.0) s) (filter (λ y. p y.0) s)))
      [ true ↦ ap (λ l. e.0 ∷ l) (filter_keys p s) | false ↦ filter_keys p s ]

  find_keys : (p : T → Bool) (s : List (T × V)) → find p (keys s) ≡ option_map (λ e. e.0) (find (λ e. p e.0) s)
  find_keys p [] = refl
  find_keys p (e ∷ s) =
      elim (p e.0) as (λ b. cond b (Some e.0) (find p (keys s)) ≡ option_map (λ y. y.0) (cond b (Some e) (find (λ y. p y.0) s)))
      [ true ↦ refl | false ↦ find_keys p s ]

  all_keys : (P : T → Type 0) (s : List (T × V)) → AllByRecursion (λ e. P e.0) s → AllByRecursion P (keys s)
  all_keys P [] a = tt
  all_keys P (e ∷ s) a = (a.0, all_keys P s a.1)

  all_of_keys : (P : T → Type 0) (s : List (T × V)) → AllByRecursion P (keys s) → AllByRecursion (λ e. P e.0) s
  all_of_keys P [] a = tt
  all_of_keys P (e ∷ s) a = (a.0, all_of_keys P s a.1)

  module _ {Q : Type 0} (cmp : T → Q → Ordering) (s : List (T × V)) (q : Q) where
    pub item_at_keys : item_at cmp (keys s) q ≡ option_map (λ e. e.0) (at cmp s q)
    item_at_keys = find_keys _ s

    pub smaller_keys : smaller cmp (keys s) q ≡ keys (below cmp s q)
    smaller_keys = filter_keys _ s

    pub greater_keys : greater cmp (keys s) q ≡ keys (above cmp s q)
    greater_keys = filter_keys _ s

    pub not_smaller_keys : not_smaller cmp (keys s) q ≡ keys (not_below cmp s q)
    not_smaller_keys = filter_keys _ s

    pub without_keys : without cmp (keys s) q ≡ keys (cut cmp s q)
    without_keys = ap (λ l. l ++ greater cmp (keys s) q) smaller_keys ∙ ap (λ l. keys (below cmp s q) ++ l) greater_keys
        ∙ sym (map-append (λ e. e.0) (below cmp s q) (above cmp s q))

  pub items_within_keys : {Q : Type 0} (cmp : T → Q → Ordering) (lo hi : Bound Q) (s : List (T × V))
      → items_within cmp lo hi (keys s) ≡ keys (within cmp lo hi s)
  items_within_keys cmp lo hi s = filter_keys _ s

  pub items_outside_keys : {Q : Type 0} (cmp : T → Q → Ordering) (lo hi : Bound Q) (s : List (T × V))
      → items_outside cmp lo hi (keys s) ≡ keys (outside cmp lo hi s)
  items_outside_keys cmp lo hi s = filter_keys _ s

  pub items_replacing_keys : {Q : Type 0} (cmp : T → Q → Ordering) (lo hi : Bound Q) (stay s : List (T × V))
      → items_replacing cmp lo hi (keys stay) (keys s) ≡ keys (replacing cmp lo hi stay s)
  items_replacing_keys cmp lo hi stay s =
      ap (λ l. l ++ (keys stay ++ keys_after)) (filter_keys _ s) ∙ ap (λ l. keys (before_range cmp lo s) ++ (keys stay ++ l)) (filter_keys _ s)
      ∙ ap (λ l. keys (before_range cmp lo s) ++ l) (sym (map-append (λ e. e.0) stay (after_range cmp lo hi s)))
      ∙ sym (map-append (λ e. e.0) (before_range cmp lo s) (stay ++ after_range cmp lo hi s))
    where
      keys_after : List T
      keys_after = filter (λ x. starts cmp lo x && not (stops cmp hi x)) (keys s)

  module _ (cmp : T → T → Ordering) where
    around : (s : List (T × V)) (x : T) (e : T × V) → smaller cmp (keys s) x ++ e.0 ∷ greater cmp (keys s) x ≡ keys (below cmp s x ++ e ∷ above cmp s x)
    around s x e = ap (λ l. l ++ e.0 ∷ greater cmp (keys s) x) (smaller_keys cmp s x) ∙ ap (λ l. keys (below cmp s x) ++ e.0 ∷ l) (greater_keys cmp s x)
        ∙ sym (map-append (λ e. e.0) (below cmp s x) (e ∷ above cmp s x))

    pub with_item_keys : (s : List (T × V)) (x : T) (v : V) → with_item cmp (keys s) x ≡ keys (put cmp s x v)
    with_item_keys s x v = ap (λ o. smaller cmp (keys s) x ++ unwrap_or o x ∷ greater cmp (keys s) x) (item_at_keys cmp s x)
        ∙ around s x (unwrap_or (option_map (λ e. e.0) (at cmp s x)) x, v)

    pub with_replaced_keys : (s : List (T × V)) (x : T) (v : V) → with_replaced cmp (keys s) x ≡ keys (placed cmp s (x, v))
    with_replaced_keys s x v = around s x (x, v)

    pub joined_keys : (s t : List (T × V)) → joined_items cmp (keys s) (keys t) ≡ keys (joined cmp s t)
    joined_keys s [] = refl
    joined_keys s (e ∷ t) = ap (λ l. joined_items cmp l (keys t)) (with_replaced_keys s e.0 e.1) ∙ joined_keys (placed cmp s e) t

    pub ascending_keys : (s : List (T × V)) → IsAscending cmp s → AreAscending cmp (keys s)
    ascending_keys [] a = tt
    ascending_keys (e ∷ s) a = (all_keys (λ y. cmp e.0 y ≡ Less) s a.0, ascending_keys s a.1)

    pub keys_ascend : (s : List (T × V)) → AreAscending cmp (keys s) → IsAscending cmp s
    keys_ascend [] a = tt
    keys_ascend (e ∷ s) a = (all_of_keys (λ y. cmp e.0 y ≡ Less) s a.0, keys_ascend s a.1)

    -- one list after another
    pub both_ascend : (s t : List (T × V)) → AreAscending cmp (keys s ++ keys t) → IsAscending cmp (s ++ t)
    both_ascend s t a = keys_ascend (s ++ t) (subst (AreAscending cmp) (sym (map-append (λ e. e.0) s t)) a)

    pub ascending_both : (s t : List (T × V)) → IsAscending cmp (s ++ t) → AreAscending cmp (keys s ++ keys t)
    ascending_both s t a = subst (AreAscending cmp) (map-append (λ e. e.0) s t) (ascending_keys (s ++ t) a)

  -- Copies of pairs have copies of their keys.
  pub copied_keys : (R : T → T → Type 0) (S : V → V → Type 0) (s t : List (T × V)) → AllZip (λ p q. R p.0 q.0 × S p.1 q.1) s t → AllZip R (keys s) (keys t)
  copied_keys R S [] [] a = tt
  copied_keys R S [] (f ∷ t) a = a
  copied_keys R S (e ∷ s) [] a = a
  copied_keys R S (e ∷ s) (f ∷ t) a = (a.0.0, copied_keys R S s t a.1)

  -- How many items there are, and whether there are any.
  pub keys_length : (s : List (T × V)) → length (keys s) ≡ length s
  keys_length s = length-map s (λ e. e.0)

  pub no_keys : (s : List (T × V)) → keys s ≡ [] → s ≡ []
  no_keys [] e = refl
  no_keys (p ∷ s) e = absurd cc

  -- What holds of some pair by its key holds of some key.
  any_key : (P : T × V → Type 0) (R : T → Type 0) → ((e : T × V) → P e → R e.0) → (s : List (T × V)) → Any P s → Any R (keys s)
  any_key P R f [] a = absurd (omega (arith, a.2))
  any_key P R f (e ∷ s) (zero, x, l, is, p) = (0, e.0, omega arith, refl, f e (subst P (sym is) p))
  any_key P R f (e ∷ s) (suc k, x, l, is, p) = any_later R e.0 (keys s) (any_key P R f s (k, x, omega (arith, l), is, p))

  -- Copies of pairs whose values are never refused are refused as copies of their keys.
  pub refused_keys : (may_refuse : T → TryReserveError → Type 0) (s : List (T × V)) (e : TryReserveError)
      → MayRefuseCopies (MayRefusePair may_refuse (λ _ _. ⊥)) s e → MayRefuseCopies may_refuse (keys s) e
  refused_keys may_refuse s e (some, inl memory) = (rw (keys_length s) some, inl memory)
  refused_keys may_refuse s e (some, inr own) = (
    rw (keys_length s) some,
    inr (any_key (λ p. MayRefusePair may_refuse (λ _ _. ⊥) p e) (λ x. may_refuse x e) of_key s own),
  )
    where
      of_key : (p : T × V) → MayRefusePair may_refuse (λ _ _. ⊥) p e → may_refuse p.0 e
      of_key p (inl h) = h
      of_key p (inr h) = absurd h

  -- The item at a place.
  pub key_get : (s : List (T × V)) (i : ℕ) → slice_get (keys s) i ≡ option_map (λ e. e.0) (slice_get s i)
  key_get [] i = refl
  key_get (e ∷ s) zero = refl
  key_get (e ∷ s) (suc i) = key_get s i

-- An answer of a map, as one of a set.
module _ {T V : Type 0} where
  none_of : (o : Option (T × V)) → option_map (λ e. e.0) o ≡ None → o ≡ None
  none_of None e = refl
  none_of (Some x) e = absurd cc

  kept_some : (o : Option (T × V)) → is_some (option_map (λ e. e.0) o) ≡ is_some o
  kept_some None = refl
  kept_some (Some x) = refl

  value_some : (o : Option (T × V)) → is_some (option_map (λ e. e.1) o) ≡ is_some (option_map (λ e. e.0) o)
  value_some None = refl
  value_some (Some x) = refl

  is_new : (o : Option (T × V)) (new : Bool) → is_some (option_map (λ e. e.1) o) ≡ not new → IsTrue new ↔ (option_map (λ e. e.0) o ≡ None)
  is_new None true h = (λ _. refl, λ _. refl)
  is_new None false h = absurd cc
  is_new (Some x) true h = absurd cc
  is_new (Some x) false h = ((λ e. absurd cc), λ e. absurd cc)

  module _ {Q : Type 0} (cmp : T → Q → Ordering) (s : List (T × V)) (q : Q) where
    pub none_keys : item_at cmp (keys s) q ≡ None → at cmp s q ≡ None
    none_keys e = none_of (at cmp s q) (sym (item_at_keys cmp s q) ∙ e)

    pub keys_none : at cmp s q ≡ None → item_at cmp (keys s) q ≡ None
    keys_none e = item_at_keys cmp s q ∙ ap (option_map (λ e. e.0)) e

    same_some : is_some (item_at cmp (keys s) q) ≡ is_some (at cmp s q)
    same_some = ap is_some (item_at_keys cmp s q) ∙ kept_some (at cmp s q)

    pub some_keys : IsSome (item_at cmp (keys s) q) → IsSome (at cmp s q)
    some_keys i = sym same_some ∙ i

    pub there_keys : {P : Type 0} → (P ↔ IsSome (at cmp s q)) → P ↔ IsSome (item_at cmp (keys s) q)
    there_keys h = ((λ p. same_some ∙ h.0 p), λ i. h.1 (some_keys i))

    pub sum_keys : {P R : Type 0} → (P → R) → P ⊎ IsSome (item_at cmp (keys s) q) → R ⊎ IsSome (at cmp s q)
    sum_keys f (inl p) = inl (f p)
    sum_keys f (inr i) = inr (some_keys i)

    -- By the value that stood at the key.
    pub new_keys : (old : Option V) (new : Bool) → is_some old ≡ not new → old ≡ value_at cmp s q → IsTrue new ↔ (item_at cmp (keys s) q ≡ None)
    new_keys old new h e =
        let n = is_new (at cmp s q) new (ap is_some (sym e) ∙ h) in
        let same = item_at_keys cmp s q in
        ((λ t. same ∙ n.0 t), λ i. n.1 (sym same ∙ i))

    pub held_keys : (old : Option V) (there : Bool) → there ≡ is_some old → old ≡ value_at cmp s q → IsTrue there ↔ IsSome (item_at cmp (keys s) q)
    held_keys old there h e =
        let same : there ≡ is_some (item_at cmp (keys s) q) = h ∙ ap is_some e ∙ value_some (at cmp s q) ∙ ap is_some (sym (item_at_keys cmp s q)) in
        ((λ t. sym same ∙ t), λ i. same ∙ i)

  pub no_keys_either : (s t : List (T × V)) → (keys s ≡ []) ⊎ (keys t ≡ []) → (s ≡ []) ⊎ (t ≡ [])
  no_keys_either s t (inl e) = inl (no_keys s e)
  no_keys_either s t (inr e) = inr (no_keys t e)

-- Of results.
module _ {A E : Type 0} where
  pub map_ok : (r : Result A E) (P Q : Type 0) → (P → Q) → IfOk r (λ _. P) → IfOk r (λ _. Q)
  map_ok (Ok x) P Q f p = f p
  map_ok (Err e) P Q f p = tt
