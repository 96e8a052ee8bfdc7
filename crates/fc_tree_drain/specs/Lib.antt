pub mod LeafFront
pub mod Opened
pub mod Stack
