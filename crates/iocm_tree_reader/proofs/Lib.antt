pub mod Counting
pub mod Limits
pub mod Ordered
pub mod Stable
pub mod Stacks
pub mod Statements
pub mod Yielding
