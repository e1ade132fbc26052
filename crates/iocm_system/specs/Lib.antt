pub mod Asking
pub mod Sights
pub mod Backs
pub mod Calling
pub mod Codes
pub mod Turns
pub mod Traces
