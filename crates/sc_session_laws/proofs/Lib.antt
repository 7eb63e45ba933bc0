pub mod Ending
pub mod Starting
pub mod Working
pub mod Going
pub mod Answering
