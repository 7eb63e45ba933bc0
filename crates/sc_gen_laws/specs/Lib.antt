-- Inside: plumbing, a representation, an invariant or a promise beside the claim (docs/TRUST.md).
pub mod Sound
pub mod Nodes
pub mod Counts
pub mod Turns
pub mod Paths
pub mod Inside
pub mod Filed
