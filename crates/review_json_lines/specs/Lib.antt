pub mod Lines
pub mod Answers
pub mod Faults
pub mod inner
