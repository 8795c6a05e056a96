pub mod Submits
pub mod inner
