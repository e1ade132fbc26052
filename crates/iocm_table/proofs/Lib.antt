pub mod Adding
pub mod Building
pub mod Lending
pub mod Lookups
pub mod Presence
pub mod Walking
pub mod Writing
