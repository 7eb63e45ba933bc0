pub mod Running
pub mod Serving
pub mod Starts
pub mod Resting
pub mod Reaching
pub mod Stepping
pub mod Singles
pub mod Sources
pub mod Adding
pub mod Growing
mod Changing
pub mod Telling
