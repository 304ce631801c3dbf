pub mod Faults
pub mod Lines
pub mod Reportings
pub mod Happenings
pub mod Frames
pub mod Reading
pub mod Readers
pub mod Directions
