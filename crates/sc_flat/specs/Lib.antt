-- Inside: plumbing, a representation, an invariant or a promise beside the claim (docs/TRUST.md).
pub mod Instructions
pub mod Lists
pub mod Drafts
pub mod Written
