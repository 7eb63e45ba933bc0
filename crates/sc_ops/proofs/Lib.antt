pub mod Ints
