pub mod Together
pub mod Trees
pub mod Named
pub mod Known
pub mod Placed
