pub mod Runs
pub mod Growth
