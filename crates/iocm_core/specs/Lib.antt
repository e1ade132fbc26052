pub mod Calls
pub mod Told
pub mod Accepting
pub mod Running
pub mod Seen
pub mod Held
pub mod Recorded
pub mod Codes
