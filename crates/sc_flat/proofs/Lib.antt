pub mod Moves
pub mod Drafts
pub mod Singles
pub mod Choices
pub mod Nodes
