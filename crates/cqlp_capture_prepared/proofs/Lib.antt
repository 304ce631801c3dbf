pub mod Places
pub mod Lookups
pub mod Reported
pub mod Whole
pub mod Asked
pub mod Stays
