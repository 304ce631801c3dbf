pub mod Writing
pub mod Reading
pub mod Making
pub mod Laws
