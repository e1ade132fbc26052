pub mod Jobs
pub mod Working
pub mod Stops
pub mod Rounds
pub mod Sending
