pub mod Numbers
pub mod Text
pub mod Tool
pub mod ValueText
pub mod Rows
pub mod Conversations
pub mod Skipping
pub mod CommandLines
