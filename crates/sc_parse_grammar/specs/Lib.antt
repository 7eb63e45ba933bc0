-- Inside: plumbing, a representation, an invariant or a promise beside the claim (docs/TRUST.md).
pub mod Kinds
pub mod Nodes
pub mod Types
pub mod Grammar
pub mod Machine
pub mod Steps
