pub mod Examples
pub mod Faults
pub mod Keys
pub mod Nodes
pub mod Origin
pub mod Remark
