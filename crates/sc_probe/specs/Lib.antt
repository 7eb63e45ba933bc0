-- Inside: plumbing, a representation, an invariant or a promise beside the claim (docs/TRUST.md).
pub mod Numbers
pub mod Tables
pub mod Counted
pub mod Covered
pub mod Traced
