pub mod Copied
pub mod Accounts
mod Lines
pub mod Compiled
