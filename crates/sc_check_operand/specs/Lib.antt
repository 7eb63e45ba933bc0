-- Inside: plumbing, a representation, an invariant or a promise beside the claim (docs/TRUST.md).
pub mod Steps
pub mod Causes
pub mod Types
pub mod Constants
pub mod Operands
pub mod Agreement
pub mod Composite
pub mod Addresses
