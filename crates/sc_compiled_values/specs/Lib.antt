-- Inside: plumbing, a representation, an invariant or a promise beside the claim (docs/TRUST.md).
pub mod Fits
pub mod Formed
pub mod Straight
pub mod Operators
pub mod Pointers
