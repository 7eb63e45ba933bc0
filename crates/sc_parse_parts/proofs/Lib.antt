pub mod Lifting
pub mod Others
