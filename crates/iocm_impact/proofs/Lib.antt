pub mod ByRuns
pub mod Counted
pub mod Counting
pub mod Gathering
pub mod Numbered
pub mod Placed
pub mod Worked
pub mod Written
