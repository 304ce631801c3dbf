mod Copied
pub mod Pages
pub mod Heard
pub mod Silence
pub mod Frames
pub mod Overheard
pub mod WrittenOnce
pub mod Causes
pub mod Whose
