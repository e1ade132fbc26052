pub mod Derived
pub mod PathTables
pub mod Sighted
