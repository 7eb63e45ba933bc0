-- Inside: plumbing, a representation, an invariant or a promise beside the claim (docs/TRUST.md).
pub mod Automaton
pub mod Phases
pub mod Pieces
pub mod Tokens
pub mod Unclosed
