mod Taking
mod Writing
pub mod Once
mod OneAnswer
mod Columns
mod Rows
mod Sizes
mod CellTaking
mod Steps
mod Pieces
pub mod Whole
pub mod OneAnswerOfCells
pub mod Built
pub mod Beginning
pub mod Putting
pub mod OneAnswerOfBatches
pub mod Written
pub mod Composed
pub mod Allowed
pub mod Lent
pub mod OneEvent
pub mod WholeCells
pub mod Refusals
pub mod CellPages
mod ColumnKinds
