-- The words of the contracts of `fc_map`, for a crate that stands on it and not on `fallible_collections`.
-- lists of pairs
pub use Rattle.fc_base.specs.Ascending.{IsAscending}
pub use Rattle.fc_base.specs.Parts.{below, above, at, value_at}
pub use Rattle.fc_base.specs.OneKey.{put, put_by, cut}
pub use Rattle.fc_base.specs.Query.{IsQueryOrder, text_order, items_order}
pub use Rattle.fc_base.specs.Viewed.{viewed, own_order}
pub use Rattle.fc_base.specs.Ranges.{bound_by, bound_now, starts, stops, is_range, within}
pub use Rattle.fc_base.specs.Growth.{growth_error, MayGrowRefuse, append_error, MayAppendRefuse}
pub use Rattle.fc_base.specs.Joined.{placed, joined}
pub use Rattle.fc_base.specs.Halves.{not_below}
pub use Rattle.fc_tree_search.specs.Neighbours.{not_above, first_item, last_item}
pub use Rattle.fc_base.specs.Extended.{extended, IsExtendedUpTo}
pub use Rattle.fc_base.specs.Copies.{IsExact, SameContents, MayRefuseCopies, MayRefusePair}
pub use Rattle.fc_base.specs.Boxed.{boxed_value}
pub use Rattle.fc_tree_copy.specs.Copy.{AreSame}
-- the items of an iterator
pub use Rattle.fc_vec.specs.Items.{GivesAll, GivesFirst}
-- vectors
pub use Rattle.fc_vec.specs.Vectors.{Vector, MayRefuse, resized, IsExtended, IsFilled, IsCopiedUpTo}
pub use Rattle.fc_vec.specs.Joined.{joined as joined_parts}
pub use Rattle.fc_vec.specs.Lends.{with_items, item_written, lends_slice, lends_walk, lends_item, lends_item_if, lends_drain, lends_slice_in, lends_walk_in, lends_item_in, lends_item_if_in, lends_drain_in}
pub use Rattle.fc_vec.specs.Reading.{front, IsMoved, IsWhole}
-- maps, their entries and walks
pub use Rattle.fc_map.specs.Entries.{Map, entries, IsSoundMap, passed_in, now_value, now_pair}
pub use Rattle.fc_map.specs.Counts.{IsBounded}
pub use Rattle.fc_map.specs.LendsKey.{path_in, lends_get, lent_value, written_at, lends_get_in}
pub use Rattle.fc_map.specs.Full.{IsFullAt, TakesNode}
pub use Rattle.fc_map.specs.Requests.{requests_at, insertion_requests, HasFewRequests, border_requests, list_requests, IsFewestOver}
pub use Rattle.fc_map.specs.Kept.{AreAllKept}
pub use Rattle.fc_map.specs.WholeRequests.{given_requests, join_requests, blocks_in}
pub use Rattle.fc_map.specs.Loads.{load_requests}
pub use Rattle.fc_map.specs.Fewest.{fewest_moves, root_len, HasFewestMoves}
pub use Rattle.fc_map.specs.Entry.{entry_map, entry_map_ref, entry_path, entry_key, entry_pair, entry_value, list_with, list_without, IsWritten, IsFirstOf, IsLastOf, IsFirstAfter, IsLastBefore, map_written, entry_lends_ok, occupied_lends, occupied_lends_whole, rests_if_none, rests_if_refused, entry_lends_ok_in, occupied_lends_in, occupied_lends_whole_in, rests_if_none_in, rests_if_refused_in}
pub use Rattle.fc_map.specs.ReadyEntry.{ready_map_ref, ready_map, ready_key, ready_list_with, ready_lends, rests_if_not_ready, ready_lends_in, rests_if_not_ready_in}
pub use Rattle.fc_map.specs.Reservation.{Places, reservation_error}
pub use Rattle.fc_map.specs.Walks.{deref_pair, keys_of, values_of}
pub use Rattle.fc_map.specs.Writing.{Stretch, whole, starting, wrote_first, wrote_last, wrote, wrote_all, set_value}
pub use Rattle.fc_map.specs.Stretches.{range_map_ref, stretch, iter_map_ref, iter_stretch, IsFirstValue, IsLastValue, IsFirstPair, IsLastPair, CalledAtPair, IsVisitedIn, range_lends_first, range_lends_last, iter_lends_first, iter_lends_last, range_lends_first_in, range_lends_last_in, iter_lends_first_in, iter_lends_last_in}
pub use Rattle.fc_tree_for_each.specs.Visits.{VisitsInTurn}
pub use Rattle.fc_tree_retain.specs.Retained.{RetainsInTurn, AskedAtPair, GivenPair, ExtractsBy}
pub use Rattle.fc_map.specs.PopIf.{AskedOnceAtPair, IsFirstNotPicked, IsLastNotPicked}
pub use Rattle.fc_map.specs.Ranged.{before_range, after_range, outside, replacing}
pub use Rattle.fc_map.specs.Compare.{pair_eq, pair_cmp, pair_partial_cmp, pair_input}
pub use Rattle.fc_map.specs.CompareLaws.{pairs_Alike, pairs_agree, pairs_equiv, pairs_per, pairs_po, pairs_tie, pairs_total}
