mod BeginFacts
pub mod LineFacts
pub mod ReadFacts
pub mod PairFacts
mod ExampleFacts
