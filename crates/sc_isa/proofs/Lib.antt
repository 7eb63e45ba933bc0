pub mod Complete
pub mod Fields
pub mod Sound
