-- What the definitions promise.
pub mod Breaches
pub mod Edits
pub mod Masks
pub mod Numbers
pub mod Runs
pub mod Steps
pub mod Trees
