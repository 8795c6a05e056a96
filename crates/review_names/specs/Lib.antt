pub mod Names
pub mod Forms
pub mod Groups
pub mod Numerals
pub mod Kinds
pub mod Laws
pub mod Bad
