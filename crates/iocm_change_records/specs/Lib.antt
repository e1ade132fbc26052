pub mod Keys
pub mod Listed
pub mod Pairs
pub mod ResourceKeys
pub mod Table
pub mod Verbs
pub mod Whole
