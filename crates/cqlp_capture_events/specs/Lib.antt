pub mod Lines
pub mod Words
pub mod Tables
pub mod Listening
pub mod Capturing
pub mod Laws
