pub mod OrderFacts
pub mod FillFacts
pub mod PlaceFacts
