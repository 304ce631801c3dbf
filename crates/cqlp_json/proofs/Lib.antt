pub mod Blocks
pub mod Escapes
pub mod Members
pub mod ReadBack
pub mod Shows
