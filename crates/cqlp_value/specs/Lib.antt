pub mod Values
pub mod Owned
pub mod Conversions
pub mod Measures
pub mod Laws
