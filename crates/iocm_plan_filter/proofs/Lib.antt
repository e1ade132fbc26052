pub mod KeysPut
pub mod Sights
pub mod Unfiltered
pub mod Worked
