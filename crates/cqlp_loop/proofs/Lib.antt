pub mod Seeking
pub mod Pulling
pub mod Turns
pub mod Paged
pub mod Spelled
