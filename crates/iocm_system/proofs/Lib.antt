mod Callers
pub mod Turns
pub mod Sends
