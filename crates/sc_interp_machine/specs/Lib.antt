-- Inside: plumbing, a representation, an invariant or a promise beside the claim (docs/TRUST.md).
pub mod Rests
pub mod Machine
pub mod Means
pub mod Bodies
pub mod BodyMeans
pub mod Runs
pub mod RunMeans
pub mod Slots
