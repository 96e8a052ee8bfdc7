pub mod CopyFacts
pub mod ItemFacts
pub mod Refusals
