pub mod Texts
pub mod Ids
pub mod Objects
