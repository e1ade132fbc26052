pub mod Check
pub mod Found
pub mod ImageNames
pub mod Near
pub mod Onlines
