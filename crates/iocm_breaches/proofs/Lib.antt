pub mod Anys
pub mod Appended
pub mod FirstOfAll
pub mod Listing
pub mod MetAddresses
pub mod NotBroken
pub mod Sharers
pub mod Worked
