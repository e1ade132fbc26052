pub mod Keyed
pub mod OnlineLast
pub mod Walks
