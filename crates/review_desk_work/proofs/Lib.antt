pub mod Numbers
pub mod Refusals
pub mod Usage
pub mod Replies
pub mod Turning
