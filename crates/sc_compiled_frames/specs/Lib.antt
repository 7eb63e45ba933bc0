-- Inside: plumbing, a representation, an invariant or a promise beside the claim (docs/TRUST.md).
pub mod Kept
pub mod Open
pub mod Means
pub mod Words
pub mod Worlds
pub mod Reached
pub mod Accesses
pub mod Conversions
pub mod Stubs
pub mod Frames
pub mod Slots
