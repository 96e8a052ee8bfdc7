pub mod Layout
pub mod Samples
