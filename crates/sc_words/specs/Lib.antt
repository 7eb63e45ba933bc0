-- Inside: plumbing, a representation, an invariant or a promise beside the claim (docs/TRUST.md).
pub mod CommandLine
pub mod Commands
pub mod Lines
pub mod Listing
pub mod Options
pub mod Parts
pub mod Stops
pub mod Texts
