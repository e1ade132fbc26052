pub mod Blanks
pub mod Cells
pub mod CellWords
pub mod Joined
pub mod Parts
pub mod Reading
pub mod Wording
pub mod Worked
