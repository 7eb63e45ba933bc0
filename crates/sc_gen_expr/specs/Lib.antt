-- Inside: plumbing, a representation, an invariant or a promise beside the claim (docs/TRUST.md).
pub mod Expressions
pub mod Words
pub mod Emitted
