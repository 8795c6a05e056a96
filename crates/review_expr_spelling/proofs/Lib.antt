pub mod Cutting
pub mod Digits
pub mod Accounts
pub mod Fronts
