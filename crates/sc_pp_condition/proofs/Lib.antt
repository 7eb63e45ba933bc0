pub mod Closing
pub mod Complete
pub mod Conditions
pub mod OneValue
pub mod Sound
pub mod Verdicts
