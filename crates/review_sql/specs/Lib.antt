pub mod Shelf
pub mod Opened
pub mod Migrated
pub mod Loading
