pub mod JoinFacts
pub mod After
pub mod GraftedFacts
pub mod UnderRoot
pub mod Levels
pub mod StableLaws
pub mod MergedFacts
pub mod JoinedBlocks
