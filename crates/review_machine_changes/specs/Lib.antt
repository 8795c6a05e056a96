pub mod Deltas
pub mod inner
