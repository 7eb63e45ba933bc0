-- Inside: plumbing, a representation, an invariant or a promise beside the claim (docs/TRUST.md).
pub mod Lines
pub mod Frames
pub mod Contents
pub mod Tasks
pub mod Places
pub mod Visible
pub mod Listings
pub mod Types
pub mod References
