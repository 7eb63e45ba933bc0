-- Inside: plumbing, a representation, an invariant or a promise beside the claim (docs/TRUST.md).
pub mod Differences
pub mod Calls
pub mod Forms
pub mod Halts
pub mod Machines
pub mod Disassembly
pub mod Stepped
