pub mod Outputs
pub mod Naming
pub mod Moving
pub mod Keeping
pub mod Putting
pub mod RecordLemmas
pub mod ToldLemmas
