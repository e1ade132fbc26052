pub mod OfItself
pub mod Worked
