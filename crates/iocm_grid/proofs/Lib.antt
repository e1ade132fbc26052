pub mod Adding
pub mod Borrowing
pub mod Counting
pub mod Indices
pub mod Lending
pub mod Looking
pub mod Searching
pub mod Writing
