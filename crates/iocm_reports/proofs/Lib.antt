mod AlteredRows
mod ByImage
pub mod ListedPairs
pub mod Printed
mod Worked
