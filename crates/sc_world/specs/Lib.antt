-- Inside: plumbing, a representation, an invariant or a promise beside the claim (docs/TRUST.md).
pub mod Standing
pub mod Changing
pub mod Declaring
pub mod Wants
pub mod Costs
pub mod Marks
pub mod Moves
pub mod Goes
pub mod Pauses
pub mod Posts
pub mod Sends
pub mod Turns
pub mod Meant
