-- Inside: plumbing, a representation, an invariant or a promise beside the claim (docs/TRUST.md).
pub mod Placing
pub mod Distinct
pub mod Ordered
pub mod Linkable
pub mod Refused
pub mod Running
pub mod OnePlace
