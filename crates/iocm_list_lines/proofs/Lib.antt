pub mod Parts
pub mod ReadBack
