pub mod Carrying
pub mod Claiming
pub mod Machine
pub mod Places
