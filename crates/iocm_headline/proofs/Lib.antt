mod Homes
mod Leaving
pub mod Inverses
pub mod WayBack
mod Watching
