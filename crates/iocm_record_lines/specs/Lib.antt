pub mod Again
pub mod Edits
pub mod Examples
pub mod Lists
pub mod Records
pub mod Undo
