pub mod Rebalanced
pub mod Removed
pub mod Spared
pub mod FewestFacts
pub mod Replaced
pub mod Exchanged
mod RemovedBlocks
