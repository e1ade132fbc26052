pub mod KeysThatDiffer
pub mod MoreWorked
pub mod Onlines
pub mod RunObjects
pub mod Worked
