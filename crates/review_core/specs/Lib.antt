pub mod Tests
pub mod Faults
pub mod inner
