pub mod Reading
pub mod Fronts
pub mod Cells
pub mod Laws
