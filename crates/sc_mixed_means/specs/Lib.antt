-- Inside: plumbing, a representation, an invariant or a promise beside the claim (docs/TRUST.md).
pub mod Stages
pub mod Waiting
pub mod Owed
pub mod Places
pub mod Runs
pub mod Sources
