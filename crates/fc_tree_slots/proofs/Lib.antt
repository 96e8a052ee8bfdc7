mod Crossing
mod Laid
mod Memory
mod Opening
mod Rests
mod Rows
mod Sharing
mod Steps
