pub mod Telling
pub mod Odd
pub mod Bounded
