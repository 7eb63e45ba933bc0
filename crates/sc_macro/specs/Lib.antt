-- Inside: plumbing, a representation, an invariant or a promise beside the claim (docs/TRUST.md).
pub mod Refusals
pub mod Tokens
pub mod Hides
pub mod Marks
pub mod Moving
pub mod Table
pub mod Replacement
pub mod Define
pub mod Strings
pub mod Substitute
pub mod Calls
pub mod Readings
pub mod Expansion
