mod Meters
mod Shares
