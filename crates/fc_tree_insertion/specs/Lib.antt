pub mod Cascade
pub mod Chain
pub mod NewNodes
pub mod Insertion
pub mod NewPair
pub mod Reservation
