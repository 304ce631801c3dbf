pub mod Latest
pub mod Keeping
pub mod History
pub mod Requests
pub mod Laws
