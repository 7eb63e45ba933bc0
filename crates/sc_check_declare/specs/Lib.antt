-- Inside: plumbing, a representation, an invariant or a promise beside the claim (docs/TRUST.md).
pub mod Outcomes
pub mod Words
pub mod Storages
pub mod Qualifiers
pub mod Composites
pub mod Counts
pub mod Declarators
pub mod Contents
pub mod Spaces
pub mod Places
