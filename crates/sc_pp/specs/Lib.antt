-- Inside: plumbing, a representation, an invariant or a promise beside the claim (docs/TRUST.md).
pub mod Outcomes
pub mod Environments
pub mod Lines
pub mod Scans
pub mod Groups
pub mod Reader
pub mod Conditionals
pub mod Headers
pub mod Directives
pub mod Preprocessing
pub mod Closed
pub mod Answers
pub mod Asked
