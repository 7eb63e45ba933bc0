pub mod Loops
pub mod Lookups
pub mod Finishing
