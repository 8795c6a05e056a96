pub mod Tables
pub mod Copies
pub mod Conditions
pub mod inner
