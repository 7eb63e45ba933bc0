pub mod Enumerated
pub mod Parts
pub mod Units
pub mod Scopes
pub mod Limits
pub mod Expressions
pub mod Causes
pub mod Asking
