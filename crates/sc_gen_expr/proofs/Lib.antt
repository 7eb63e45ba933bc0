pub mod Patches
pub mod Waiting
pub mod Mentions
pub mod Appended
pub mod Layers
