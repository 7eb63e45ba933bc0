-- Inside: plumbing, a representation, an invariant or a promise beside the claim (docs/TRUST.md).
pub mod Quiet
pub mod Turns
pub mod Characters
pub mod Sums
