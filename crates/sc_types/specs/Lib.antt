-- Inside: plumbing, a representation, an invariant or a promise beside the claim (docs/TRUST.md).
pub mod Layouts
pub mod Tables
pub mod Compatibility
pub mod Outcomes
pub mod Conversions
pub mod Frames
pub mod Calls
