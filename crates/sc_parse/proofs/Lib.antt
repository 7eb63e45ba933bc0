pub mod Settling
pub mod Lifting
pub mod Others
pub mod Turns
