pub mod Served
pub mod Peers
pub mod Responses
