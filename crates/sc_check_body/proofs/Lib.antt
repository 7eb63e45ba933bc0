mod Births
mod Turns
mod Blocked
mod Labelled
