pub mod Copied
pub mod Entries
pub mod Handed
pub mod Lends
pub mod Recent
pub mod RecentLends
pub mod Walked
pub mod Written
