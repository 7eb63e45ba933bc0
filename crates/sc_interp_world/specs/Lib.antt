-- Inside: plumbing, a representation, an invariant or a promise beside the claim (docs/TRUST.md).
pub mod Showings
pub mod Happenings
pub mod Outputs
pub mod Naming
pub mod Keeping
pub mod Putting
pub mod Recording
pub mod Told
