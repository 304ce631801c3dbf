pub mod Sequence
pub mod Segments
pub mod Runs
pub mod Stores
pub mod Streams
pub mod Laws
pub mod StreamLaws
