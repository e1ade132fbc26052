mod Rightness
mod Idling
mod Stepping
mod Staging
mod Accepted
mod Kept
mod Changes
mod Copying
mod Recording
mod First
pub mod Sends
