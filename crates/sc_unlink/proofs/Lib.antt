pub mod Lists
pub mod Clearing
pub mod Gone
