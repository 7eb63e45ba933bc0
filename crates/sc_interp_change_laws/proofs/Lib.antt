pub mod Between
pub mod Changed
pub mod Going
pub mod Later
pub mod Showing
pub mod Steps
