pub mod Eight
pub mod Joined
pub mod PathKeys
pub mod Reached
pub mod Tables
