pub mod Lines
pub mod Reading
pub mod Strings
pub mod Values
