-- Inside: plumbing, a representation, an invariant or a promise beside the claim (docs/TRUST.md).
pub mod Clashes
pub mod Spaces
pub mod Names
pub mod Births
