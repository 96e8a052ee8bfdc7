-- The laws of lists of pairs and of items, for a crate that names `fallible_collections` alone.
pub use Rattle.fc_base.proofs.Laws.{at_equal, value_at_equal, cut_equal, at_put, value_at_put, value_at_put_equal, at_put_other, value_at_put_other, at_cut}
pub use Rattle.fc_base.proofs.Laws.{at_cut_other, value_at_cut_other, ascending_put, ascending_cut, parts_joined, cut_absent, cut_put, cut_put_new}
pub use Rattle.fc_base.proofs.Laws.{cut_put_equal, length_cut_there, length_cut_absent, length_put_there, length_put_new, smaller_before, ascending_front}
pub use Rattle.fc_base.proofs.Laws.{ascending_back, at_between, cut_between, first_is_least, last_is_greatest, ascending_rest, ascending_lead, at_first}
pub use Rattle.fc_base.proofs.Laws.{at_last, cut_first, cut_last, at_query, value_at_query, value_at_put_query, at_put_other_query, value_at_put_other_query}
pub use Rattle.fc_base.proofs.Laws.{put_by_query, cut_query, within_all, within_bounds, ascending_within, places_are_within}
pub use Rattle.fc_base.proofs.JoinedLaws.{halves_joined, placed_after, joined_after, joined_halves, ascending_joined}
pub use Rattle.fc_set.proofs.OperationLaws.{lengths, in_common, difference_at_least, difference_at_most, common_at_most, union_at_least, union_at_most}
pub use Rattle.fc_set.proofs.OperationLaws.{symmetric_at_most}
pub use Rattle.fc_tree_append.proofs.StableLaws.{same_pairs, extended_more, ascending_extended, extended_stable}
pub use Rattle.fc_map.proofs.VisitLaws.{visits_map, visited_whole}
pub use Rattle.fc_laws.proofs.NeighbourLaws.{within_from, within_after, within_to, within_before, not_below_query, above_query, not_above_query, below_query}
pub use Rattle.fc_laws.proofs.NeighbourLaws.{exact_pair, first_there, first_passes, first_least, first_none, last_there, last_passes, last_greatest, last_none}
pub use Rattle.fc_laws.proofs.NeighbourLaws.{below_cut, above_cut, not_below_cut, not_above_cut, below_put, above_put, not_below_put, not_above_put, first_put}
pub use Rattle.fc_laws.proofs.NeighbourLaws.{last_put}
pub use Rattle.fc_laws.proofs.NeighbourCallLaws.{first_at_or_after_there, first_at_or_after_side, first_after_there, first_after_side, last_at_or_before_there}
pub use Rattle.fc_laws.proofs.NeighbourCallLaws.{last_at_or_before_side, last_before_there, last_before_side}
pub use Rattle.fc_laws.proofs.PlaceLaws.{key_at, contains_at, at_contained, some_at, none_at, some_put, value_at_cut, value_before_put, value_before_cut}
pub use Rattle.fc_laws.proofs.PlaceLaws.{length_put_at_most, length_written}
pub use Rattle.fc_laws.proofs.JoinedLaws.{at_joined, value_at_joined, at_joined_query, value_at_joined_query, joined_is}
pub use Rattle.fc_laws.proofs.PairLaws.{text_order_fits, filter_cut, filter_put_out, filter_put_kept, all_cut, all_put, sum_cut, sum_put, sum_put_new}
pub use Rattle.fc_laws.proofs.PairLaws.{sum_values_cut, sum_values_cut_absent, sum_values_put, sum_values_put_new, at_cut_other_query, value_at_cut_other_query}
pub use Rattle.fc_laws.proofs.PairLaws.{value_at_text_put, not_below_all, not_below_rest, at_first_pair}
pub use Rattle.fc_laws.proofs.OrderLaws.{tuple_less, tuple_equal, tuple_greater, tuple_total}
pub use Rattle.fc_laws.proofs.OrderLaws.{number_total, number_less, number_equal, number_greater, number_at_most}
pub use Rattle.fc_laws.proofs.OrderLaws.{number_at_least, number_tuple_less, number_tuple_equal}
pub use Rattle.fc_laws.proofs.OrderLaws.{number_tuple_greater, number_tuple_at_most, number_tuple_at_least, number_tuple_total}
pub use Rattle.fc_laws.proofs.RequestLaws.{requests_within, load_within}
pub use Rattle.fc_laws.proofs.RetainedLaws.{retained_is, staying_are}
pub use Rattle.fallible_collections.proofs.SetLaws.{item_at_joined, item_at_joined_query, ascending_joined_items, same_items, joined_items_is, item_at_union}
pub use Rattle.fallible_collections.proofs.SetLaws.{item_at_difference, item_at_symmetric}
pub use Rattle.fallible_collections.proofs.ItemLaws.{item_at_with, item_at_with_other, item_at_without, item_at_without_other, ascending_with}
pub use Rattle.fallible_collections.proofs.ItemLaws.{ascending_without, item_at_first, without_first}
pub use Rattle.fallible_collections.proofs.RetainedLaws.{items_retained_are}
