pub mod Outgoing
pub mod SkippedLines
pub mod Stretching
pub mod Turning
