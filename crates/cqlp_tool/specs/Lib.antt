pub mod Faults
pub mod Files
pub mod Limits
pub mod Capturing
pub mod CommandLines
pub mod Conversing
pub mod Marks
pub mod ProgressLaws
