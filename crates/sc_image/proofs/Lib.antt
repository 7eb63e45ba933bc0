-- Lemmas on images from nothing.
mod Rooms
mod Single
mod Behind
mod OnePlaces
mod Linkables
mod Inside
pub mod Tops
