pub mod CopiedSlots
pub mod Copies
pub mod Heap
pub mod InOrder
pub mod Slotted
pub mod Timers
pub mod Values
pub mod Walks
