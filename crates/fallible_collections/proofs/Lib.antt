pub mod ItemLaws
pub mod Laws
pub mod RetainedLaws
pub mod SetLaws
