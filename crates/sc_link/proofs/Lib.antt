-- Lemmas on linking.
mod Keys
mod Sequences
mod Stubs
mod Fixes
mod LiteralPlaces
mod Numbers
mod Parts
mod Turns
mod Assembly
mod Patches
