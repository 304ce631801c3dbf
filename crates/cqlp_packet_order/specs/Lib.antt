pub mod Packets
pub mod Orders
pub mod Laws
