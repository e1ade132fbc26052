pub mod Addresses
pub mod Breaches
pub mod Examples
pub mod Laws
