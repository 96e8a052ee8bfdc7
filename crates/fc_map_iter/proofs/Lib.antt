pub mod WalkSizes
pub mod OwnedFacts
