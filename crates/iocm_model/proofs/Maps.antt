-- Finite maps of which cells are overwritten.
pub mod Cells
pub mod Overwriting
