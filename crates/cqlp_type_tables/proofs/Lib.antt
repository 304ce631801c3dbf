pub mod Appending
pub mod Counts
pub mod Filling
pub mod Fitting
pub mod Options
pub mod Reading
pub mod TableLaws
pub mod ItemTypes
