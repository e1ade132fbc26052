pub mod Alike
pub mod Line
pub mod Names
pub mod Printing
pub mod Rows
mod Worked
