pub mod Edits
pub mod Rest
pub mod Commit
pub mod Begin
pub mod Unkeyed
