-- Inside: plumbing, a representation, an invariant or a promise beside the claim (docs/TRUST.md).
pub mod Depths
pub mod Induction
pub mod Exits
pub mod Good
pub mod Lists
pub mod Ways
pub mod Procedures
pub mod Steps
pub mod Storing
pub mod Empty
pub mod Small
pub mod Caller
pub mod Blocks
