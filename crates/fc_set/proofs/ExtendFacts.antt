-- A list of items extended by more, one after another, as the keys of pairs are.
use Rattle.std.proofs.Common.{◌≡◌, ℕ, ◌+◌, ◌≤◌, List, [], ◌∷◌, ◌++◌, None, length, refl, sym, ap, subst, ◌∙◌}
use Rattle.std.specs.declared.cmp.Ordering.{Ordering}
use Rattle.fc_base.specs.declared.try_reserve_error.TryReserveError.{TryReserveError}
use Rattle.fc_base.specs.Extended.{extended, IsExtendedUpTo}
use Rattle.fc_base.specs.Growth.{MayGrowRefuse}
use Rattle.fc_base.specs.OneKey.{put}
use Rattle.fc_base.specs.Ascending.{IsAscending}
use Rattle.fc_tree_build.specs.Loads.{load_requests}
use Rattle.fc_set.specs.Items.{item_at, with_item, extended_items, AreExtendedUpTo, AreAscending}
use Rattle.fc_set.proofs.ItemFacts.{keys, keys_length, keys_ascend, with_item_keys, keys_none}

module _ {T : Type 0} (cmp : T → T → Ordering) where
  more : (s given : List T) (x : T) → with_item cmp (extended_items cmp s given) x ≡ extended_items cmp s (given ++ x ∷ [])
  more s [] x = refl
  more s (y ∷ given) x = more (with_item cmp s y) given x

  -- One more item is put into what those before it made.
  pub extended_more : (s given old new : List T) (x : T) → old ≡ extended_items cmp s given → new ≡ with_item cmp old x
      → new ≡ extended_items cmp s (given ++ x ∷ [])
  extended_more s given old new x e f = f ∙ ap (λ l. with_item cmp l x) e ∙ more s given x

  -- A new item was refused, and no more than that was taken.
  pub stopped_at_last : (s front new : List T) (x : T) (e : TryReserveError) → new ≡ extended_items cmp s front → item_at cmp new x ≡ None
      → MayGrowRefuse (length new) e → (stop : AreExtendedUpTo cmp s (front ++ x ∷ []) new e) × (stop.rest ≡ [])
  stopped_at_last s front new x e is absent error = (
    record { front = front; item = x; rest = []; taken = refl; put_in = is; new_item = absent; error = error },
    refl,
  )

module _ {T V : Type 0} where
  keys_both : (s t : List (T × V)) → keys (s ++ t) ≡ keys s ++ keys t
  keys_both [] t = refl
  keys_both (e ∷ s) t = ap (λ l. e.0 ∷ l) (keys_both s t)

  -- One item more is the key of one pair more.
  pub keys_more : (pairs : List (T × V)) (items : List T) (e : T × V) → keys pairs ≡ items → keys (pairs ++ e ∷ []) ≡ items ++ e.0 ∷ []
  keys_more pairs items e is = keys_both pairs (e ∷ []) ∙ ap (λ l. l ++ e.0 ∷ []) is

  -- Each item with the one value there is.
  abbrev pub paired : V → List T → List (T × V)
  paired v [] = []
  paired v (x ∷ items) = (x, v) ∷ paired v items

  paired_keys : (v : V) (items : List T) → keys (paired v items) ≡ items
  paired_keys v [] = refl
  paired_keys v (x ∷ items) = ap (λ l. x ∷ l) (paired_keys v items)

  module _ (cmp : T → T → Ordering) where
    -- The keys of a list that is extended are extended by the keys.
    pub keys_extended : (s pairs : List (T × V)) → keys (extended cmp s pairs) ≡ extended_items cmp (keys s) (keys pairs)
    keys_extended s [] = refl
    keys_extended s (e ∷ pairs) =
        keys_extended (put cmp s e.0 e.1) pairs ∙ ap (λ l. extended_items cmp l (keys pairs)) (sym (with_item_keys cmp s e.0 e.1))

    keys_up_to : (old pairs new : List (T × V)) (e : TryReserveError) → IsExtendedUpTo cmp old pairs new e
        → AreExtendedUpTo cmp (keys old) (keys pairs) (keys new) e
    keys_up_to old pairs new e s = record {
      front = keys s.front;
      item = s.item.0;
      rest = keys s.rest;
      taken = ap keys s.taken ∙ keys_both s.front (s.item ∷ s.rest);
      put_in = ap keys s.put_in ∙ keys_extended old s.front;
      new_item = keys_none cmp new s.item.0 s.new_key;
      error = subst (λ n. MayGrowRefuse n e) (sym (keys_length new)) s.error;
    }

    -- A refusal told of pairs is one of their keys.
    pub items_up_to : (v : V) (old pairs new : List (T × V)) (items rest : List T) (e : TryReserveError) → keys pairs ≡ items
        → IsExtendedUpTo cmp old (pairs ++ paired v rest) new e → AreExtendedUpTo cmp (keys old) (items ++ rest) (keys new) e
    items_up_to v old pairs new items rest e is s =
        subst (λ l. AreExtendedUpTo cmp (keys old) l (keys new) e)
        (keys_both pairs (paired v rest) ∙ ap (λ l. l ++ keys (paired v rest)) is ∙ ap (λ l. items ++ l) (paired_keys v rest))
        (keys_up_to old (pairs ++ paired v rest) new e s)

module _ {T V : Type 0} (cmp : T → T → Ordering) where
  -- What so many pairs take at most where they ascend, their keys take.
  pub few_of_keys : (pairs : List (T × V)) (items : List T) (first now : ℕ) → keys pairs ≡ items
      → (IsAscending cmp pairs → now ≤ first + load_requests (length pairs)) → AreAscending cmp items → now ≤ first + load_requests (length items)
  few_of_keys pairs items first now is few a =
      let l = sym (keys_length pairs) ∙ ap length is in
      subst (λ k. now ≤ first + load_requests k) l (few (keys_ascend cmp pairs (subst (AreAscending cmp) (sym is) a)))
