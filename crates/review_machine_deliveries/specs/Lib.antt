pub mod Formed
pub mod Replies
pub mod Delivered
pub mod Restart
pub mod Gathered
pub mod inner
