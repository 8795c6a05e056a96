pub mod Flat
pub mod Lists
