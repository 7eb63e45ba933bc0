-- Inside: plumbing, a representation, an invariant or a promise beside the claim (docs/TRUST.md).
pub mod Marks
pub mod Refusals
pub mod Claims
pub mod Crowds
pub mod Sizes
pub mod Causes
