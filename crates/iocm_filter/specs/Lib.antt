pub mod Examples
pub mod Misread
pub mod Note
pub mod Notes
pub mod RowExamples
pub mod Sieves
pub mod Wanted
pub mod Words
