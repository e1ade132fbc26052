pub mod Again
pub mod Given
pub mod Running
pub mod Stating
