pub mod Each
pub mod Lifted
