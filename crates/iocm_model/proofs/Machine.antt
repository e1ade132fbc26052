-- Configurations and views.
pub mod Masks
pub mod OwnKeys
pub mod Views
