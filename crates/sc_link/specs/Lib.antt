-- Inside: plumbing, a representation, an invariant or a promise beside the claim (docs/TRUST.md).
pub mod Relocation
pub mod Symbols
pub mod Entries
pub mod Linked
pub mod Areas
pub mod Steps
