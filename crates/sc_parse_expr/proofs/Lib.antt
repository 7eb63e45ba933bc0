pub mod Runs
pub mod Heads
pub mod Tokens
pub mod Complete
pub mod Fronts
pub mod Others
pub mod Turns
pub mod Founds
