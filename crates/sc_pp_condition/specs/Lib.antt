-- Inside: plumbing, a representation, an invariant or a promise beside the claim (docs/TRUST.md).
pub mod Constants
pub mod Decides
pub mod Grammar
pub mod Machine
pub mod Numbers
pub mod Operands
pub mod Operators
pub mod Steps
pub mod Terms
pub mod Verdict
