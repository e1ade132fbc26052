pub mod Examples
pub mod Fields
pub mod Kinds
pub mod Laws
pub mod Lines
pub mod Texts
