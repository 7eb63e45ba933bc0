-- Inside: plumbing, a representation, an invariant or a promise beside the claim (docs/TRUST.md).
pub mod Applied
pub mod Recorded
pub mod Frames
pub mod Lawful
