pub mod Again
pub mod Comments
pub mod Examples
pub mod Runs
pub mod Text
pub mod Written
