pub mod Front
pub mod Loops
pub mod Members
pub mod Sorting
