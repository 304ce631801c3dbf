pub mod Stretches
pub mod Shifted
pub mod Pieces
pub mod Skipping
pub mod Giving
