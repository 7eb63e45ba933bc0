-- Inside: plumbing, a representation, an invariant or a promise beside the claim (docs/TRUST.md).
pub mod Stands
pub mod Uses
pub mod Parts
pub mod Literals
pub mod Settled
pub mod Sound
pub mod Program
pub mod Leaving
pub mod Modules
pub mod Plans
