mod Copied
mod Costs
mod Evicted
pub mod Laws
mod Recent
mod Reversed
mod Written
