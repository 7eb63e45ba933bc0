mod Objects
mod Texts
mod Carried
