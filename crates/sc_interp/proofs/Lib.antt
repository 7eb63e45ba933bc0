pub mod Runs
pub mod Unchanged
pub mod Whole
