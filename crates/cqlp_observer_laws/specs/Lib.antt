pub mod Honest
pub mod Fronts
