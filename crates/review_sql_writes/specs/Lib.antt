pub mod Commits
pub mod inner
