-- The laws of lists of items: what stands at each item once one is put in or taken out, that they ascend, and the first item.
-- A caller names one on a function, as `#[tactic(auto, using(fallible_collections::proofs::Laws::item_at_with))]`, or cites it in an answer. A set's items
-- are the keys of pairs with nothing at them.
use Rattle.std.proofs.Common.{◌≡◌, List, ◌∷◌, Some, None, sym, ap, ◌∙◌, subst}
use Rattle.std.specs.Prelude.{unwrap_or}
use Rattle.std.specs.Option.{option_map}
use Rattle.std.specs.Cmp.{IsTotalOrder}
use Rattle.std.specs.declared.cmp.Ordering.{Ordering}
use Rattle.std.specs.declared.cmp.Ordering.TheVariants.{Equal}
use Rattle.fc_base.specs.OneKey.{put, cut}
use Rattle.fc_base.proofs.Laws.{at_put, at_put_other, at_cut, at_cut_other, ascending_put, ascending_cut, at_first, cut_first}
use Rattle.fc_set.specs.Items.{item_at, without, AreAscending, with_item}
use Rattle.fc_set.proofs.ItemFacts.{keys, item_at_keys, with_item_keys, without_keys, ascending_keys}
use Rattle.fallible_collections.proofs.SetLaws.{pairs, pairs_keys, at_pair, pairs_ascend}

module _ {T Q : Type 0} (order : T → Q → Ordering) (s : List T) (q : Q) where
  without_pairs : without order s q ≡ keys (cut order (pairs s) q)
  without_pairs = ap (λ l. without order l q) (sym (pairs_keys s)) ∙ without_keys order (pairs s) q

  -- Where an item was taken out, none is left.
  pub item_at_without : item_at order (without order s q) q ≡ None
  item_at_without = ap (λ l. item_at order l q) without_pairs ∙ item_at_keys order (cut order (pairs s) q) q
      ∙ ap (option_map (λ e. e.0)) (at_cut order (pairs s) q)

module _ {T : Type 0} (cmp : T → T → Ordering) (s : List T) (x : T) where
  with_pairs : with_item cmp s x ≡ keys (put cmp (pairs s) x tt)
  with_pairs = ap (λ l. with_item cmp l x) (sym (pairs_keys s)) ∙ with_item_keys cmp (pairs s) x tt

  -- Where an item is put in, the one that was there stays, and else it is there; at each other item nothing changes.
  pub item_at_with : IsTotalOrder cmp → item_at cmp (with_item cmp s x) x ≡ Some (unwrap_or (item_at cmp s x) x)
  item_at_with total =
      ap (λ l. item_at cmp l x) with_pairs ∙ item_at_keys cmp (put cmp (pairs s) x tt) x ∙ ap (option_map (λ e. e.0)) (at_put cmp (pairs s) x tt total)
      ∙ ap (λ o. Some (unwrap_or o x)) (sym (at_pair cmp s x))

  pub item_at_with_other : (y : T) → IsTotalOrder cmp → ¬ (cmp y x ≡ Equal) → item_at cmp (with_item cmp s x) y ≡ item_at cmp s y
  item_at_with_other y total other =
      ap (λ l. item_at cmp l y) with_pairs ∙ item_at_keys cmp (put cmp (pairs s) x tt) y
      ∙ ap (option_map (λ e. e.0)) (at_put_other cmp (pairs s) x tt y total other) ∙ sym (at_pair cmp s y)

  pub item_at_without_other : (y : T) → IsTotalOrder cmp → ¬ (cmp y x ≡ Equal) → item_at cmp (without cmp s x) y ≡ item_at cmp s y
  item_at_without_other y total other =
      ap (λ l. item_at cmp l y) (without_pairs cmp s x) ∙ item_at_keys cmp (cut cmp (pairs s) x) y
      ∙ ap (option_map (λ e. e.0)) (at_cut_other cmp (pairs s) x y total other) ∙ sym (at_pair cmp s y)

  -- An ascending list stays one.
  pub ascending_with : IsTotalOrder cmp → AreAscending cmp s → AreAscending cmp (with_item cmp s x)
  ascending_with total a = subst (AreAscending cmp) (sym with_pairs) (ascending_keys cmp _ (ascending_put cmp (pairs s) x tt total (pairs_ascend cmp s a)))

  pub ascending_without : IsTotalOrder cmp → AreAscending cmp s → AreAscending cmp (without cmp s x)
  ascending_without total a = subst (AreAscending cmp) (sym (without_pairs cmp s x))
      (ascending_keys cmp _ (ascending_cut cmp (pairs s) x total (pairs_ascend cmp s a)))

  -- The first item of an ascending list stands at itself, and without it the others are left.
  pub item_at_first : (rest : List T) → IsTotalOrder cmp → AreAscending cmp s → s ≡ x ∷ rest → item_at cmp s x ≡ Some x
  item_at_first rest total a is = at_pair cmp s x ∙ ap (option_map (λ e. e.0))
      (at_first cmp (pairs s) (pairs rest) x tt total (pairs_ascend cmp s a) (ap pairs is))

  pub without_first : (rest : List T) → IsTotalOrder cmp → AreAscending cmp s → s ≡ x ∷ rest → without cmp s x ≡ rest
  without_first rest total a is = without_pairs cmp s x ∙ ap keys (cut_first cmp (pairs s) (pairs rest) x tt total (pairs_ascend cmp s a) (ap pairs is))
      ∙ pairs_keys rest
