pub mod Again
pub mod ChpidPartition
pub mod ChpidPath
pub mod Device
pub mod Given
pub mod Limits
pub mod Resource
pub mod Unit
