pub mod Again
pub mod Given
pub mod Leaves
pub mod Written
