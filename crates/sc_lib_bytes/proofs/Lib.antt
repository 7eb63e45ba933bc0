pub mod Prefixes
pub mod Sizes
pub mod Mores
pub mod Arguments
