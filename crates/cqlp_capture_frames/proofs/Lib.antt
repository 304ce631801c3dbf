pub mod Faults
pub mod Parts
pub mod Reportings
pub mod Reading
pub mod Given
pub mod Directions
pub mod Limits
