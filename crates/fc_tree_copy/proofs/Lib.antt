pub mod BlockFacts
pub mod CopyFacts
pub mod TreeFacts
pub mod CloneFacts
