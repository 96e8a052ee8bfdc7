pub mod Heights
pub mod Borders
pub mod SparePairs
pub mod Rebalanced
pub mod Cuts
pub mod Counts
pub mod Parts
mod SplitBlocks
