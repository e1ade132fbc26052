pub mod Plain
pub mod PlainRun
pub mod PlainWalk
pub mod Reading
pub mod Rows
