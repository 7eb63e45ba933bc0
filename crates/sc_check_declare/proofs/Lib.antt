pub mod Joining
pub mod Steps
pub mod Rows
pub mod Listed
