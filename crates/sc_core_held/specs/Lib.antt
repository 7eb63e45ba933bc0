-- Inside: plumbing, a representation, an invariant or a promise beside the claim (docs/TRUST.md).
pub mod Finding
pub mod Forms
pub mod Found
pub mod Numbers
