pub mod ByKey
pub mod Edged
pub mod Laws
pub mod Listed
pub mod Removed
