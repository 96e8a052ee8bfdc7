-- The laws of lists of items that are joined, and so of the union and of the symmetric difference: what stands at each item, that they ascend, and
-- that no other ascending list answers so. A set's items are the keys of pairs with nothing at them.
use Rattle.std.proofs.Common.{◌≡◌, Bool, true, false, cond, List, [], ◌∷◌, map, filter, find, Option, Some, None, is_none, refl, sym, ap, ◌∙◌, subst}
use Rattle.std.specs.Prelude.{⊤, if◌then◌else◌}
use Rattle.std.specs.List.{AllByRecursion}
use Rattle.std.specs.Option.{option_map, option_or}
use Rattle.std.specs.Cmp.{IsTotalOrder}
use Rattle.std.specs.Ordering.{is_eq}
use Rattle.std.specs.declared.cmp.Ordering.{Ordering}
use Rattle.std.specs.declared.cmp.Ordering.TheVariants.{Less}
use Rattle.fc_base.specs.Ascending.{IsAscending}
use Rattle.fc_base.specs.Joined.{joined}
use Rattle.fc_base.specs.Parts.{at}
use Rattle.fc_base.specs.Query.{IsQueryOrder}
use Rattle.fc_base.specs.Viewed.{own_order}
use Rattle.fc_base.proofs.JoinedLaws.{ascending_joined}
use Rattle.fc_base.proofs.AscendingFacts.{is_equal}
use Rattle.fc_set.specs.Items.{item_at, AreAscending, joined_items}
use Rattle.fc_set.specs.Operations.{difference, symmetric_difference, union}
use Rattle.fc_set.proofs.ItemFacts.{keys, item_at_keys, joined_keys, ascending_keys}
use Rattle.fc_set.proofs.SideFacts.{ascending_kept}
use Rattle.fc_tree_append.proofs.StableLaws.{same_pairs}
use Rattle.fc_laws.proofs.JoinedLaws.{at_joined_query}

module _ {T : Type 0} where
  -- The items as the keys of pairs.
  abbrev pub pairs : List T → List (T × ⊤)
  pairs s = map (λ x. (x, tt)) s

  pub pairs_keys : (s : List T) → keys (pairs s) ≡ s
  pairs_keys [] = refl
  pairs_keys (x ∷ s) = ap (λ l. x ∷ l) (pairs_keys s)

  all_pairs : (P : T → Type 0) (s : List T) → AllByRecursion P s → AllByRecursion (λ e. P e.0) (pairs s)
  all_pairs P [] a = tt
  all_pairs P (x ∷ s) a = (a.0, all_pairs P s a.1)

  either : (o p : Option (T × ⊤)) → option_map (λ e. e.0) (option_or o p) ≡ option_or (option_map (λ e. e.0) o) (option_map (λ e. e.0) p)
  either None p = refl
  either (Some x) p = refl

  same_item : (o p : Option (T × ⊤)) → option_map (λ e. e.0) o ≡ option_map (λ e. e.0) p → o ≡ p
  same_item None None h = refl
  same_item None (Some y) h = absurd cc
  same_item (Some x) None h = absurd cc
  same_item (Some x) (Some y) h = let e : x.0 ≡ y.0 = cc in λ i. Some (e i, tt)

  pub at_pair : {Q : Type 0} (order : T → Q → Ordering) (s : List T) (q : Q) → item_at order s q ≡ option_map (λ e. e.0) (at order (pairs s) q)
  at_pair order s q = ap (λ l. item_at order l q) (sym (pairs_keys s)) ∙ item_at_keys order (pairs s) q

-- what a search finds among those that a test keeps, where it is one for all that the search looks for
found_among : {X : Type 0} (p q : X → Bool) (s : List X) (b : Bool) → ((x : X) → p x ≡ true → q x ≡ b) → find p (filter q s) ≡ cond b (find p s) None
found_among {X = X} p q [] b same = elim b as (λ c. ◌≡◌ {A = Option X} None (cond c None None)) [ true ↦ refl | false ↦ refl ]
found_among p q (x ∷ s) b same = go (p x) (q x) refl (same x) (found_among p q s b same)
  where
    go : (u v : Bool) → p x ≡ u → (u ≡ true → v ≡ b) → find p (filter q s) ≡ cond b (find p s) None
        → find p (cond v (x ∷ filter q s) (filter q s)) ≡ cond b (cond u (Some x) (find p s)) None
    go true true e h i = rw (e, sym (h refl)) refl
    go true false e h i = i ∙ rw (sym (h refl)) refl
    go false true e h i = rw e i
    go false false e h i = i

module _ {T : Type 0} (cmp : T → T → Ordering) where
  pub pairs_ascend : (s : List T) → AreAscending cmp s → IsAscending cmp (pairs s)
  pairs_ascend [] a = tt
  pairs_ascend (x ∷ s) a = (all_pairs (λ y. cmp x y ≡ Less) s a.0, pairs_ascend s a.1)

  joined_pairs : (s t : List T) → joined_items cmp s t ≡ keys (joined cmp (pairs s) (pairs t))
  joined_pairs s t = rw (← joined_keys cmp (pairs s) (pairs t), pairs_keys s, pairs_keys t) refl

  -- At equal items the same item stands.
  item_equal : (s : List T) (y x : T) → IsTotalOrder cmp → is_eq (cmp y x) ≡ true → item_at cmp s y ≡ item_at cmp s x
  item_equal s y x total i = ap (λ (f : T → Bool). find f s) (λ j z. is_eq (sym ((own_order total).same x y z (is_equal (cmp y x) i)) j))

  -- Where the first list ascends, so does what the two are joined to.
  pub ascending_joined_items : (s t : List T) → IsTotalOrder cmp → AreAscending cmp s → AreAscending cmp (joined_items cmp s t)
  ascending_joined_items s t total a =
      subst (AreAscending cmp) (sym (joined_pairs s t)) (ascending_keys cmp _ (ascending_joined cmp (pairs s) (pairs t) total (pairs_ascend s a)))

  -- Two ascending lists with the same item at each item are one list.
  pub same_items : (s t : List T) → IsTotalOrder cmp → AreAscending cmp s → AreAscending cmp t → ((x : T) → item_at cmp s x ≡ item_at cmp t x) → s ≡ t
  same_items s t total a b same =
      let each : (x : T) → at cmp (pairs s) x ≡ at cmp (pairs t) x = λ x. same_item _ _ (sym (at_pair cmp s x) ∙ same x ∙ at_pair cmp t x) in
      sym (pairs_keys s) ∙ ap keys (same_pairs cmp (pairs s) (pairs t) total (pairs_ascend s a) (pairs_ascend t b) each) ∙ pairs_keys t

  -- At a query stands in joined lists the item of the second, or else of the first.
  pub item_at_joined_query : {Q : Type 0} (order : T → Q → Ordering) (s t : List T) (q : Q) → IsTotalOrder cmp → IsQueryOrder cmp order → AreAscending cmp t
      → item_at order (joined_items cmp s t) q ≡ option_or (item_at order t q) (item_at order s q)
  item_at_joined_query order s t q total fits b =
      ap (λ l. item_at order l q) (joined_pairs s t) ∙ item_at_keys order (joined cmp (pairs s) (pairs t)) q
      ∙ ap (option_map (λ e. e.0)) (at_joined_query cmp order (pairs s) (pairs t) q total fits (pairs_ascend t b))
      ∙ either (at order (pairs t) q) (at order (pairs s) q) ∙ (λ i. option_or (sym (at_pair order t q) i) (sym (at_pair order s q) i))

  -- At an item stands in joined lists the one of the second, or else of the first.
  pub item_at_joined : (s t : List T) (x : T) → IsTotalOrder cmp → AreAscending cmp t
      → item_at cmp (joined_items cmp s t) x ≡ option_or (item_at cmp t x) (item_at cmp s x)
  item_at_joined s t x total b = item_at_joined_query cmp s t x total (own_order total) b

  -- An ascending list that answers so at each item is the joined one.
  pub joined_items_is : (s t u : List T) → IsTotalOrder cmp → AreAscending cmp s → AreAscending cmp t → AreAscending cmp u
      → ((x : T) → item_at cmp u x ≡ option_or (item_at cmp t x) (item_at cmp s x)) → u ≡ joined_items cmp s t
  joined_items_is s t u total a b c answers =
      same_items u (joined_items cmp s t) total c (ascending_joined_items s t total a) (λ x. answers x ∙ sym (item_at_joined s t x total b))

  -- In a union stands the item of the first, or else of the second.
  pub item_at_union : (s t : List T) (x : T) → IsTotalOrder cmp → AreAscending cmp s
      → item_at cmp (union cmp s t) x ≡ option_or (item_at cmp s x) (item_at cmp t x)
  item_at_union s t x total a = item_at_joined t s x total a

  -- In a difference stands the item of the first, where the second has none.
  pub item_at_difference : (s t : List T) (x : T) → IsTotalOrder cmp → item_at cmp (difference cmp s t) x
      ≡ (if is_none (item_at cmp t x) then item_at cmp s x else None)
  item_at_difference s t x total = found_among _ (λ y. is_none (item_at cmp t y)) s (is_none (item_at cmp t x)) (λ y i. ap is_none (item_equal t y x total i))

  -- In a symmetric difference stands the item of the one list that has it alone.
  pub item_at_symmetric : (s t : List T) (x : T) → IsTotalOrder cmp → AreAscending cmp t
      → item_at cmp (symmetric_difference cmp s t) x ≡ (if is_none (item_at cmp s x) then item_at cmp t x else if is_none (item_at cmp t x) then item_at cmp s
      x else None)
  item_at_symmetric s t x total b =
      item_at_joined (difference cmp s t) (difference cmp t s) x total (ascending_kept cmp _ t b)
      ∙ rw (item_at_difference t s x total, item_at_difference s t x total) (alone (item_at cmp s x) (item_at cmp t x))
    where
      alone : (o p : Option T) → option_or (if is_none o then p else None) (if is_none p then o else None)
          ≡ (if is_none o then p else if is_none p then o else None)
      alone None None = refl
      alone None (Some y) = refl
      alone (Some z) p = refl
