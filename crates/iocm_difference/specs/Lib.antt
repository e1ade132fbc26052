pub mod Ahead
pub mod Difference
pub mod Examples
pub mod Laws
pub mod Met
pub mod Passes
pub mod Same
pub mod Walks
