pub mod Cutting
mod Splitting
pub mod Signed
mod Commands
mod Labels
mod Told
pub mod Fields
