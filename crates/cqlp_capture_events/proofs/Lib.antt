pub mod Heard
pub mod WrittenOnce
pub mod Causes
