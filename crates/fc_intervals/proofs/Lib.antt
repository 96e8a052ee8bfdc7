pub mod Laws
pub mod Joined
mod Taken
pub mod Lengths
pub mod Lists
pub mod Order
pub mod Parted
pub mod Points
pub mod Walks
pub mod Written
mod Put
mod Copies
mod FirstGap
mod JoinedPut
mod Handed
mod ValueSet
mod InTurn
mod Open
