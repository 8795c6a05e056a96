pub mod Grouped
pub mod Counting
pub mod inner
