-- Inside: plumbing, a representation, an invariant or a promise beside the claim (docs/TRUST.md).
pub mod Operations
pub mod Registers
pub mod Machine
pub mod Beginning
