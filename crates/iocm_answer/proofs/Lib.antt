mod Again
mod BeginsAs
pub mod ChangesRead
pub mod Copied
pub mod Opened
pub mod Reading
pub mod RunTexts
pub mod SiftedRows
pub mod Told
pub mod Turns
pub mod WorkedRows
