pub mod Lists
pub mod Waits
pub mod Views
pub mod AtClient
pub mod AtServer
pub mod Begun
