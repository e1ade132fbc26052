pub mod Headline
pub mod Splitting
pub mod Watching
pub mod KeptInverses
pub mod WayBack
