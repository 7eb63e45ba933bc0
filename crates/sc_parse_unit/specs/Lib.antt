-- Inside: plumbing, a representation, an invariant or a promise beside the claim (docs/TRUST.md).
pub mod Trees
pub mod Grammar
pub mod Machine
pub mod Steps
pub mod Parse
pub mod Claims
pub mod Parts
