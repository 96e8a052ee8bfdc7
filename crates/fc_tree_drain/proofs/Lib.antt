pub mod Cells
pub mod Ends
pub mod LeafFronts
pub mod Opening
pub mod Sizes
pub mod OpenedBlocks
