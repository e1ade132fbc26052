pub mod Grouped
pub mod Namings
