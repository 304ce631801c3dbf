pub mod Renders
pub mod Buffering
pub mod Shows
pub mod Turns
pub mod Timely
