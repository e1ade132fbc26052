pub mod Again
pub mod Devices
pub mod Examples
pub mod Images
pub mod Members
pub mod Paths
pub mod Units
