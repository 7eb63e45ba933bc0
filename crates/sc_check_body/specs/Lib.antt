-- Inside: plumbing, a representation, an invariant or a promise beside the claim (docs/TRUST.md).
pub mod Faults
pub mod Progress
pub mod Alone
pub mod Linked
pub mod Locals
pub mod Statements
pub mod Blocks
