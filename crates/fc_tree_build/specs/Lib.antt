pub mod Spine
pub mod Spares
pub mod Built
pub mod Loads
