pub mod Gridded
pub mod Lent
pub mod Level
pub mod Levels
