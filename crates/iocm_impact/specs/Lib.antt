pub mod Blocks
pub mod Counts
pub mod Examples
pub mod Gathered
pub mod Impact
pub mod Laws
pub mod Marks
pub mod Rows
