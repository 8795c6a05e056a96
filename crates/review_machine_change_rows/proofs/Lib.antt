pub mod Edited
pub mod Ordered
pub mod Shown
