pub mod Windows
pub mod Running
