mod Added
mod Apart
mod Bounds
mod Entries
mod Heaviest
mod InIntervals
mod Lightest
pub mod Lists
mod Literals
mod Merges
mod Names
mod Orders
mod Padded
mod Ranks
mod Sums
mod Roomy
pub mod Texts
mod Reported
