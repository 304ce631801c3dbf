pub mod Tags
pub mod Labels
pub mod Extensions
pub mod Payload
pub mod Innermost
