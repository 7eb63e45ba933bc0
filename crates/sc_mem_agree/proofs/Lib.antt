pub mod Tests
pub mod Accesses
pub mod Steps
pub mod Pairs
pub mod Cells
pub mod Loads
pub mod Overlaps
