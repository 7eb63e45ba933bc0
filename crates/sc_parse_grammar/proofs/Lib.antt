pub mod Closing
pub mod Others
