pub mod Rebalancing
pub mod Removal
pub mod Fewest
