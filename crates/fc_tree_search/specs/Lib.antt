pub mod Found
pub mod Neighbours
pub mod Passed
pub mod Way
pub mod Written
