pub mod Loaded
pub mod Decided
