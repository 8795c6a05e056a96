pub mod Line
pub mod Shown
pub mod Answer
pub mod Tokens
pub mod Laws
