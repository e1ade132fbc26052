pub mod Examples
pub mod Laws
pub mod Reached
pub mod Reasons
pub mod Rerouted
pub mod UnderKeys
