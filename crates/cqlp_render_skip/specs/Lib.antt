pub mod Reporting
pub mod Showing
pub mod Texts
