pub mod Names
pub mod Receipts
pub mod Views
pub mod Rule
pub mod Steps
pub mod Codes
pub mod Spent
