-- The items next to a query are the keys of the pairs next to it.
use Rattle.std.proofs.Common.{◌≡◌, ◌-◌, List, length, slice_get, ap, ◌∙◌}
use Rattle.std.specs.Option.{option_map}
use Rattle.std.specs.Ordering.{is_le}
use Rattle.std.specs.declared.cmp.Ordering.{Ordering}
use Rattle.fc_base.specs.Halves.{not_below}
use Rattle.fc_base.specs.Parts.{below, above}
use Rattle.fc_tree_search.specs.Neighbours.{first_item, last_item, not_above}
use Rattle.fc_set.specs.Items.{smaller, greater, not_smaller}
use Rattle.fc_set.specs.Neighbours.{not_greater}
use Rattle.fc_set.proofs.ItemFacts.{keys, key_get, keys_length, smaller_keys, greater_keys, not_smaller_keys, filter_keys}

module _ {T V : Type 0} where
  last_key : (s : List (T × V)) → last_item (keys s) ≡ option_map (λ e. e.0) (last_item s)
  last_key s = ap (λ n. slice_get (keys s) (n - 1)) (keys_length s) ∙ key_get s (length s - 1)

  module _ {Q : Type 0} (cmp : T → Q → Ordering) (s : List (T × V)) (q : Q) where
    pub first_from_keys : first_item (not_smaller cmp (keys s) q) ≡ option_map (λ e. e.0) (first_item (not_below cmp s q))
    first_from_keys = ap first_item (not_smaller_keys cmp s q) ∙ key_get (not_below cmp s q) 0

    pub first_after_keys : first_item (greater cmp (keys s) q) ≡ option_map (λ e. e.0) (first_item (above cmp s q))
    first_after_keys = ap first_item (greater_keys cmp s q) ∙ key_get (above cmp s q) 0

    pub last_to_keys : last_item (not_greater cmp (keys s) q) ≡ option_map (λ e. e.0) (last_item (not_above cmp s q))
    last_to_keys = ap last_item (filter_keys (λ x. is_le (cmp x q)) s) ∙ last_key (not_above cmp s q)

    pub last_before_keys : last_item (smaller cmp (keys s) q) ≡ option_map (λ e. e.0) (last_item (below cmp s q))
    last_before_keys = ap last_item (smaller_keys cmp s q) ∙ last_key (below cmp s q)
