pub mod Types
pub mod TypeStep
pub mod Scalars
pub mod Contents
pub mod CellStep
