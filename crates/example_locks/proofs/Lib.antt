pub mod Holders
pub mod Lasts
pub mod Releasing
pub mod Rewriting
pub mod Steps
