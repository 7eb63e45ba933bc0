pub mod Follows
pub mod BodyFollows
pub mod RunFollows
