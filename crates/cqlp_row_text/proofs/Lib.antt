pub mod Doubles
pub mod ReadBack
