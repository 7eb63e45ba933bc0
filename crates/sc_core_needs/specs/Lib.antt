-- Inside: plumbing, a representation, an invariant or a promise beside the claim (docs/TRUST.md).
pub mod Types
pub mod Values
pub mod Nodes
pub mod Operators
pub mod Needs
