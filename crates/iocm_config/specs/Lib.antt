pub mod OnlineLast
pub mod Stored
pub mod Walked
