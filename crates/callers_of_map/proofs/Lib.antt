mod Lists
mod Places
mod Stopped
