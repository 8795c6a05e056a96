pub mod Signs
pub mod Places
pub mod Reached
pub mod Verdicts
pub mod Excluded
pub mod OneFault
pub mod Within
