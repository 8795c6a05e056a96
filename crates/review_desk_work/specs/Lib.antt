pub mod CommandLine
pub mod Jobs
pub mod Told
pub mod Faults
pub mod Worked
