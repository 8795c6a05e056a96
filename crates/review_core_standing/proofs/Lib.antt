pub mod InThreads
pub mod Made
