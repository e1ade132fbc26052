pub mod Changed
pub mod Followed
pub mod Marked
pub mod RangeKeys
pub mod RangeRows
pub mod Viewed
pub mod Written
