pub mod Sizes
pub mod Entries
pub mod Apart
pub mod Firsts
pub mod Idle
