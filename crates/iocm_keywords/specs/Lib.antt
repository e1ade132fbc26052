pub mod Examples
pub mod Known
pub mod LeftOut
