pub mod Again
pub mod Canonical
pub mod Device
pub mod Resource
pub mod Statement
