pub mod Connected
pub mod Counts
pub mod Examples
pub mod Fits
pub mod Linked
pub mod Seen
pub mod SeenViews
pub mod WantedRows
