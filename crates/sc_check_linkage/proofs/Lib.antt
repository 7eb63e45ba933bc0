pub mod Naming
pub mod Finishing
