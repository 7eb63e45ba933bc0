-- Inside: plumbing, a representation, an invariant or a promise beside the claim (docs/TRUST.md).
pub mod Texts
pub mod Literals
pub mod Stubs
pub mod Lookups
pub mod Slots
