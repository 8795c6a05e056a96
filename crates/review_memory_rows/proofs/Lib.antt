pub mod Dropped
pub mod Turned
pub mod Sent
pub mod Joined
pub mod Based
