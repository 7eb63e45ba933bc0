-- Inside: plumbing, a representation, an invariant or a promise beside the claim (docs/TRUST.md).
pub mod Outcomes
pub mod Steps
pub mod Files
pub mod Functions
pub mod Units
