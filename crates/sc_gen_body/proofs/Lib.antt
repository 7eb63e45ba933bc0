pub mod Patches
pub mod Rows
pub mod Steps
pub mod Cases
pub mod Arms
