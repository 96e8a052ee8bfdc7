pub mod Orders
pub mod Fills
pub mod Sides
pub mod Placing
