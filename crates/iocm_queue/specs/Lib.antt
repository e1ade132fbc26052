pub mod Taken
pub mod Examples
pub mod Ends
pub mod Hauls
pub mod Parts
pub mod Rule
pub mod Inside
