pub mod Forms
pub mod Rendering
pub mod Showing
pub mod Streams
