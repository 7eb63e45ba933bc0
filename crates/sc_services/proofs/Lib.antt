pub mod Closing
pub mod Slots
pub mod Writing
pub mod Reading
pub mod Tables
pub mod Ways
pub mod Given
pub mod Passing
