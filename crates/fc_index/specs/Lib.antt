pub mod ByKey
pub mod Edges
pub mod Equal
pub mod Rows
