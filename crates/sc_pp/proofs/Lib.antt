pub mod Written
pub mod Agrees
pub mod Matched
pub mod Same
pub mod Entering
pub mod Units
pub mod Naming
