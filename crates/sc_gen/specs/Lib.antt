-- Inside: plumbing, a representation, an invariant or a promise beside the claim (docs/TRUST.md).
pub mod Blocks
pub mod Sections
pub mod Definitions
pub mod Objects
pub mod Finding
pub mod Making
pub mod Limits
