pub mod CsvRows
pub mod JsonRows
pub mod Places
pub mod Quotes
pub mod Reading
pub mod Shows
