pub mod Parts
pub mod Commands
pub mod Reviews
