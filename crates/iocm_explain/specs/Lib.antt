pub mod Entry
pub mod Examples
pub mod Explain
pub mod Named
pub mod Printed
