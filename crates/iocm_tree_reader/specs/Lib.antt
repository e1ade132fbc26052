pub mod Examples
pub mod Leaves
pub mod Reading
pub mod Sizes
pub mod Views
