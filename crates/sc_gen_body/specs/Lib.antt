-- Inside: plumbing, a representation, an invariant or a promise beside the claim (docs/TRUST.md).
pub mod Frames
pub mod Jumps
pub mod Initializers
pub mod Statements
pub mod Functions
