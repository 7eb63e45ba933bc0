-- Inside: plumbing, a representation, an invariant or a promise beside the claim (docs/TRUST.md).
pub mod Words
pub mod Flat
pub mod Violations
pub mod Faults
pub mod Safe
pub mod Comparisons
