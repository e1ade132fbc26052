pub mod Carried
pub mod LettingGo
pub mod Limits
pub mod Reversed
pub mod Trees
