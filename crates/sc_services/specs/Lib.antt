-- Inside: plumbing, a representation, an invariant or a promise beside the claim (docs/TRUST.md).
pub mod Memory
pub mod Frames
pub mod Blocks
pub mod Leaving
pub mod Entering
pub mod Tagging
pub mod Writing
pub mod Copying
pub mod Calling
pub mod Arguments
pub mod Passing
