pub mod Values
pub mod Labels
pub mod Words
pub mod inner
