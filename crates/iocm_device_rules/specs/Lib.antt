pub mod Addresses
pub mod Among
pub mod Joining
pub mod OnUnits
pub mod Past
pub mod SameUnits
pub mod SetCounts
pub mod WrongDevices
