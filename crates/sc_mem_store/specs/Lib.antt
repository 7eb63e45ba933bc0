-- Inside: plumbing, a representation, an invariant or a promise beside the claim (docs/TRUST.md).
pub mod Apart
pub mod Cells
pub mod Changes
pub mod Fetches
pub mod Holding
pub mod Kept
pub mod Living
pub mod Puts
pub mod Stray
