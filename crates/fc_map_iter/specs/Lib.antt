pub mod Walks
pub mod Compare
