pub mod Indexes
pub mod Lengths
pub mod Bodies
