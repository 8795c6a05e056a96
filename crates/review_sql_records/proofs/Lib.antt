pub mod Common
pub mod ReadAlike
