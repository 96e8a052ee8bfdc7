pub mod Retained
pub mod Unbalanced
pub mod Filtered
pub mod Rebalancing
pub mod Stretch
