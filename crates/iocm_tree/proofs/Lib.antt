pub mod Bare
pub mod Depths
pub mod Kept
pub mod LettingGo
pub mod Ordered
pub mod Reversed
pub mod Trees
