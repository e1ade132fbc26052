pub mod Given
pub mod Grouped
mod Images
pub mod Lists
pub mod Maxdev
pub mod Names
pub mod Operands
pub mod Ordered
pub mod Places
pub mod Readings
