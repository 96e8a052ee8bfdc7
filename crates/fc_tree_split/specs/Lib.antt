pub mod Border
pub mod Cut
