pub mod Connected
pub mod Examples
pub mod Laws
pub mod Left
pub mod Lost
