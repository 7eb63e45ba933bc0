-- Inside: plumbing, a representation, an invariant or a promise beside the claim (docs/TRUST.md).
pub mod Steps
pub mod Scopes
pub mod Words
pub mod Tags
pub mod Declarations
pub mod Expressions
