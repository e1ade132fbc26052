pub mod Keys
pub mod WantedLaws
pub mod WorkedRows
