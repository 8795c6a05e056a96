pub mod Walking
pub mod Parting
pub mod LookingUp
