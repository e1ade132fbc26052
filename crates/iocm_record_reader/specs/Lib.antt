pub mod ChpidRecords
pub mod Deck
pub mod DeviceRecords
pub mod Progress
pub mod ResourceRecords
pub mod UnitRecords
pub mod Values
