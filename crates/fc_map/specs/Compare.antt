-- Equality, order and hash of the pairs of a map.
pub use Rattle.fc_map_iter.specs.Compare.{pair_eq, pair_cmp, pair_partial_cmp, pair_input}
