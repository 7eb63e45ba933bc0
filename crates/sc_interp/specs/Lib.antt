-- Inside: plumbing, a representation, an invariant or a promise beside the claim (docs/TRUST.md).
pub mod Steady
pub mod Steps
pub mod Shows
pub mod Ran
pub mod Ends
