pub mod Passing
pub mod Folding
pub mod Feeding
pub mod Skips
pub mod Giving
