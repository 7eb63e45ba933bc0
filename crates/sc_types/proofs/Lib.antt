mod Layouts
mod Tables
mod Sizes
mod Members
mod Offsets
mod Compatibility
