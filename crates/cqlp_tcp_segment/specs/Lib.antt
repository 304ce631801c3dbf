pub mod Fields
pub mod EtherType
pub mod Link
pub mod Ip
pub mod Tunnels
pub mod Tcp
pub mod Segment
pub mod Laws
