-- Inside: plumbing, a representation, an invariant or a promise beside the claim (docs/TRUST.md).
pub mod Binary
pub mod Conditional
pub mod Assignment
pub mod Formed
