pub mod Again
pub mod Apart
pub mod Given
pub mod Rest
