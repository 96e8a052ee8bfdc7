pub mod KeyRanges
pub mod Span
pub mod Gap
pub mod Cut
pub mod Leaf
pub mod Ends
pub mod Beside
