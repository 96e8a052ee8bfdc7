pub mod Grafted
pub mod Reused
pub mod Rising
pub mod Requests
