-- Inside: plumbing, a representation, an invariant or a promise beside the claim (docs/TRUST.md).
pub mod Library
pub mod Signatures
pub mod Linkage
pub mod Births
pub mod Frames
pub mod Keys
