pub mod Holds
pub mod Labels
pub mod Postfix
pub mod inner
