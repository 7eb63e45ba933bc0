pub mod Chains
pub mod Glue
pub mod Landing
pub mod LeftOver
pub mod Names
pub mod Readings
pub mod Walks
