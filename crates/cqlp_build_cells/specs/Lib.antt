pub mod Said
pub mod CellEvents
pub mod Building
pub mod Laws
