-- Inside: plumbing, a representation, an invariant or a promise beside the claim (docs/TRUST.md).
pub mod Names
pub mod Known
pub mod Open
pub mod Expressions
pub mod Statements
pub mod Frames
pub mod Contents
pub mod Modules
