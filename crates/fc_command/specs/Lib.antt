pub mod Kinds
pub mod Session
pub mod Spoken
pub mod SetStep
pub mod Step
pub mod Walks
pub mod Writing
