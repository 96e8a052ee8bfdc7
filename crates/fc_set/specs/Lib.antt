pub mod Copied
pub mod Items
pub mod Neighbours
pub mod Operations
pub mod Sides
pub mod HashLaws
pub mod Retained
