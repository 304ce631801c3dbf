mod Texts
mod Items
mod Levels
