pub mod Callers
pub mod Exchanges
pub mod Hearing
pub mod Hosts
pub mod Inboxes
pub mod Script
