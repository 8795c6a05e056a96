pub mod Decisions
pub mod inner
