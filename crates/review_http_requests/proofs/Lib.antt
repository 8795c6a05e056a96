pub mod Given
pub mod Insert
pub mod Whole
pub mod Telling
