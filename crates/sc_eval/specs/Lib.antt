-- Inside: plumbing, a representation, an invariant or a promise beside the claim (docs/TRUST.md).
pub mod Strings
pub mod Texts
pub mod Starts
pub mod Places
