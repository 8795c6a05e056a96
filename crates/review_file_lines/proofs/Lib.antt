pub mod Putting
pub mod Effective
pub mod Keeping
