pub mod Begun
pub mod Answering
