pub mod Again
pub mod Along
pub mod Performing
pub mod Staged
pub mod StageLaws
