pub mod Branches
pub mod Walks
pub mod Parts
pub mod Places
pub mod Steps
pub mod inner
