-- Inside: plumbing, a representation, an invariant or a promise beside the claim (docs/TRUST.md).
pub mod Worlds
pub mod Events
pub mod Paid
pub mod Lawful
pub mod Moved
pub mod Inside
pub mod Lean
pub mod Near
