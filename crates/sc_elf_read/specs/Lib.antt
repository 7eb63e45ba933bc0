-- Inside: plumbing, a representation, an invariant or a promise beside the claim (docs/TRUST.md).
pub mod Pieces
pub mod Tables
pub mod Parsed
pub mod Fields
pub mod Tests
