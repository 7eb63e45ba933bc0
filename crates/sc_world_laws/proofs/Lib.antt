pub mod Turns
pub mod Halts
pub mod Tells
pub mod Halting
pub mod Moving
pub mod Pausing
pub mod LeanFormed
