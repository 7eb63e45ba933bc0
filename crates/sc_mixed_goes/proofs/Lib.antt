pub mod Stretches
pub mod Meaning
pub mod Showing
pub mod Changing
pub mod Starting
pub mod Going
