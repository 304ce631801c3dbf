pub mod Codes
pub mod Events
pub mod Opening
pub mod Productions
pub mod Upcoming
