pub mod Fields
pub mod Columns
pub mod Bindings
pub mod Nested
pub mod Texts
