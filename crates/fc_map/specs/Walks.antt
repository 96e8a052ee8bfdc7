-- What the items of walks point to.
pub use Rattle.fc_map_iter.specs.Walks.{deref_pair, keys_of, values_of}
