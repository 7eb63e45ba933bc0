pub mod Zero
pub mod Steps
pub mod Begun
