pub mod InsertedPairs
pub mod InsertedLevels
mod InsertedBlocks
pub mod Cascades
pub mod NewPairSteps
pub mod NewPairs
pub mod LentLeaves
pub mod Leaves
pub mod InsertedTrees
pub mod Reservations
