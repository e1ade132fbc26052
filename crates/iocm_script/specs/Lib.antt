pub mod Commands
pub mod Examples
pub mod Lines
pub mod Operands
pub mod Scripts
pub mod Verbs
pub mod Words
pub mod Written
