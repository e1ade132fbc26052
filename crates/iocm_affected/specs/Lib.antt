pub mod Affected
pub mod Alike
pub mod Listing
