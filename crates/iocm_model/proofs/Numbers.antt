-- Subchannel numbers: at opening, after a change, and after it is taken back.
pub mod Apart
pub mod Back
pub mod Cells
pub mod Changed
pub mod First
pub mod Freed
pub mod FromNone
pub mod InOrder
pub mod Lowest
pub mod Opening
pub mod Rest
