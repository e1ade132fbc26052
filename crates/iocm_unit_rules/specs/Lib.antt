pub mod LinkNumbers
pub mod LinkRanges
pub mod Links
pub mod Sharing
