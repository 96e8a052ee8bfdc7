-- What the contracts of reserved insertions cite: words of the tree.
pub use Rattle.fc_tree_insertion.specs.Reservation.{Places, reservation_error}
