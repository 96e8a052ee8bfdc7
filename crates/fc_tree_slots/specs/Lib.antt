pub mod Cells
pub mod Lends
pub mod Ownership
pub mod Rest
pub mod formers
