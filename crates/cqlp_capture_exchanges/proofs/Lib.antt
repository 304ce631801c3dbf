pub mod Accounts
pub mod Causes
pub mod Heard
pub mod Known
pub mod Ends
mod Fields
mod Labels
mod Members
pub mod Missing
pub mod Talks
pub mod Texts
pub mod WrittenOnce
pub mod Pooled
mod Parts
mod SummaryObjects
mod TableNames
mod Warnings
